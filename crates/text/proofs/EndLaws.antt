-- Where readers end, as code finds it step by step: behind one reader and then another, in a bracket, and in a loop over a list.
-- Each law takes a call's answer by two equations: what the call promises, and which case it was. Assumes nothing.
use Prim.Native.Nat.{◌+◌, ◌-◌, ◌<◌, ◌≤◌, ℕ}
use lib.ListN.{get_or, length}
use mathlib.Core.List.{List, ◌∷◌}
use mathlib.Core.Option.{Option, none, some}
use mathlib.Core.Path.{◌∙◌, ◌≡◌, ap, refl, sym}
use native.Mathlib.Omega.{arith}
use Rattle.lists.specs.Lists.{there}
use Rattle.text.proofs.Forward.{Forward, forward_bind, forward_byte, forward_give}
use Rattle.text.proofs.ManyLaws.{many_more, many_stop, many_wrong}
use Rattle.text.proofs.ReaderLaws.{left_from, left_past}
use Rattle.text.proofs.Spaces.{space_here}
use Rattle.text.specs.Brackets.{bracketed, many}
use Rattle.text.specs.CodeEnds.{word_end}
use Rattle.text.specs.Reader.{Left, Reader, ◌>>=◌, ◌>>◌, and_then, byte, from, give}
use Rattle.std.specs.Prelude as prelude
use Rattle.std.specs.Prelude.{None, Some, is_some}

-- an end that there is
pub end_there : {A : Type 0} (o : Option (A × Left)) → is_some (word_end o) ≡ there o
unfolding there
end_there none = refl
end_there (some r) = refl

module _ {A : Type 0} (R : Reader A) (s : List ℕ) (at : ℕ) where
  -- an end: the reader read something, and left the text from there on
  pub end_read : Forward R → (e : ℕ) → word_end (R (from s at)) ≡ Some e → (x : A) × (R (from s at) ≡ some (x, from s e)) × (at ≤ e)
  end_read p e h = go (R (from s at)) refl h
    where
      go : (o : Option (A × Left)) → R (from s at) ≡ o → word_end o ≡ Some e → (x : A) × (R (from s at) ≡ some (x, from s e)) × (at ≤ e)
      go none q k = let z : ◌≡◌ {A = ℕ} 0 1 = cc in absurd (omega arith)
      go (some r) q k =
          let a : r.1.at ≡ e = cc in
          let m = p (from s at) r.0 r.1 q in
          (r.0, q ∙ ap (λ (l : Left). some (r.0, l)) (left_from s at m ∙ ap (from s) a), omega (arith, left_past s at m))

  -- none: it refused
  pub end_none : word_end (R (from s at)) ≡ None → R (from s at) ≡ none
  end_none h = go (R (from s at)) h
    where
      go : (o : Option (A × Left)) → word_end o ≡ None → o ≡ none
      go none k = refl
      go (some r) k = let z : ◌≡◌ {A = ℕ} 0 1 = cc in absurd (omega arith)

  module _ {B : Type 0} where
    -- one reader that ends at e, and then another from there
    pub then_on : Forward R → (K : A → Reader B) {r x : prelude.Option ℕ} {e : ℕ} → r ≡ word_end (R (from s at)) → r ≡ Some e → ((a : A) → x ≡ word_end (K a (from s e))) → x ≡ word_end ((R >>= K) (from s at))
    then_on p K {r} {x} {e} h k q = let a = end_read p e (sym h ∙ k) in rw a.1 (q a.0)

    -- one reader that refuses
    pub then_off : (K : A → Reader B) {r : prelude.Option ℕ} → r ≡ word_end (R (from s at)) → r ≡ None → None ≡ word_end ((R >>= K) (from s at))
    then_off K h k = rw (end_none (sym h ∙ k))

    -- where what was read is only wrapped, the end stays
    pub then_give : (f : A → B) {r : prelude.Option ℕ} → r ≡ word_end (R (from s at)) → r ≡ word_end ((R >>= (λ a. give (f a))) (from s at))
    then_give f h = h ∙ go (R (from s at))
      where
        go : (o : Option (A × Left)) → word_end o ≡ word_end (and_then o (λ a. give (f a)))
        go none = refl
        go (some r) = refl

-- two readers, and what is made of what they read
module _ {A B C : Type 0} (R : Reader A) (S : Reader B) (f : A → B → C) where
  abbrev pub pair : Reader C
  pair = R >>= (λ a. S >>= (λ b. give (f a b)))

  pub forward_pair : Forward R → Forward S → Forward pair
  forward_pair p q = forward_bind R _ p (λ a. forward_bind S _ q (λ b. forward_give (f a b)))

  module _ (s : List ℕ) (at : ℕ) {r : prelude.Option ℕ} (first : r ≡ word_end (R (from s at))) where
    -- the first refuses
    pub pair_off : r ≡ None → None ≡ word_end (pair (from s at))
    pair_off k = then_off R s at (λ a. S >>= (λ b. give (f a b))) first k

    -- the first ends at e, and the second from there
    pub pair_on : Forward R → {e : ℕ} {x y : prelude.Option ℕ} → r ≡ Some e → x ≡ word_end (S (from s e)) → x ≡ y → y ≡ word_end (pair (from s at))
    pair_on p {e} k second told = sym told ∙ then_on R s at p (λ a. S >>= (λ b. give (f a b))) first k (λ a. then_give S s e (f a) second)

-- ---- brackets

module _ {A : Type 0} (R : Reader A) (s : List ℕ) (at : ℕ) {o : prelude.Option ℕ} (opening : o ≡ word_end (byte 40 (from s at))) where
  -- no bracket opens
  pub bracket_none : o ≡ None → None ≡ word_end (bracketed R (from s at))
  unfolding bracketed
  bracket_none k = then_off (byte 40) s at (λ b. R >>= (λ x. byte 41 >> give x)) opening k

  -- what stands in it is wrong
  pub bracket_wrong : {a : ℕ} → o ≡ Some a → None ≡ word_end (R (from s a)) → None ≡ word_end (bracketed R (from s at))
  unfolding bracketed
  bracket_wrong {a} k h = then_on (byte 40) s at (forward_byte 40 (λ z. absurd (omega arith))) (λ b. R >>= (λ x. byte 41 >> give x)) opening k (λ b. then_off R s a (λ x. byte 41 >> give x) h refl)

  -- the end of its content: it ends behind the bracket that closes there, if one does
  pub bracket_end : Forward R → {a e : ℕ} {x : prelude.Option ℕ} → o ≡ Some a → Some e ≡ word_end (R (from s a)) → x ≡ word_end (byte 41 (from s e)) → x ≡ word_end (bracketed R (from s at))
  unfolding bracketed
  bracket_end p {a} {e} k h q =
      then_on (byte 40) s at (forward_byte 40 (λ z. absurd (omega arith))) (λ b. R >>= (λ x. byte 41 >> give x)) opening k (λ b.
      then_on R s a p (λ x. byte 41 >> give x) h refl (λ x. then_give (byte 41) s e (λ b. x) q))

-- the same where it holds two readers, one behind the other
module _ {A B C : Type 0} (R : Reader A) (S : Reader B) (f : A → B → C) (p : Forward R) (s : List ℕ) (at : ℕ) {o : prelude.Option ℕ} (opening : o ≡ word_end (byte 40 (from s at))) where
  -- the first is wrong
  pub held_first : {a : ℕ} {r : prelude.Option ℕ} → o ≡ Some a → r ≡ word_end (R (from s a)) → r ≡ None → None ≡ word_end (bracketed (pair R S f) (from s at))
  held_first {a} opened first k = bracket_wrong (pair R S f) s at opening opened (pair_off R S f s a first k)

  module _ {a e : ℕ} {r x : prelude.Option ℕ} (opened : o ≡ Some a) (first : r ≡ word_end (R (from s a))) (on : r ≡ Some e) (second : x ≡ word_end (S (from s e))) where
    -- the second is wrong
    pub held_second : x ≡ None → None ≡ word_end (bracketed (pair R S f) (from s at))
    held_second k = bracket_wrong (pair R S f) s at opening opened (pair_on R S f s a first p on second k)

    -- both end, and the bracket closes there, if it does
    pub held_end : Forward S → {g : ℕ} {z : prelude.Option ℕ} → x ≡ Some g → z ≡ word_end (byte 41 (from s g)) → z ≡ word_end (bracketed (pair R S f) (from s at))
    held_end q k closing = bracket_end (pair R S f) s at opening (forward_pair R S f p q) opened (pair_on R S f s a first p on second k) closing

-- ---- a loop that reads a list: a turn where a space stands at its place i, from where the item behind it ended

module _ {A : Type 0} (R : Reader A) (p : Forward R) (s : List ℕ) (i : ℕ) {b : ℕ} (here : b ≡ get_or s i 0) where
  module _ {r : prelude.Option ℕ} (space : b ≡ 32) (call : r ≡ word_end (R (from s (i + 1)))) where
    -- the list ends where its rest ends
    pub list_more : {e : ℕ} {x : prelude.Option ℕ} → r ≡ Some e → word_end (many R (from s i)) ≡ x → word_end (many R (from s e)) ≡ x
    list_more {e} k inv =
        let a = end_read R s (i + 1) p e (sym call ∙ k) in
        then_give (many R) s e (λ xs. a.0 ∷ xs) refl ∙ sym (ap word_end (many_more (λ y. 0) R p s i a.0 e (sym here ∙ space) a.1)) ∙ inv

    -- the next turn has fewer bytes left
    pub list_less : {e : ℕ} → r ≡ Some e → length s - e < length s - i
    list_less {e} k = omega (arith, (space_here s i b here space).1, (end_read R s (i + 1) p e (sym call ∙ k)).2)

    -- a space and no item
    pub list_wrong : {x : prelude.Option ℕ} → r ≡ None → word_end (many R (from s i)) ≡ x → None ≡ x
    list_wrong k inv = sym (ap word_end (many_wrong (λ y. 0) R p s i (sym here ∙ space) (end_none R s (i + 1) (sym call ∙ k)))) ∙ inv

  -- no space: the list ends here
  pub list_stop : {x : prelude.Option ℕ} → (b ≡ 32 → ⊥) → word_end (many R (from s i)) ≡ x → Some i ≡ x
  list_stop k inv = sym (ap word_end (many_stop (λ y. 0) R p s i (λ z. k (here ∙ z)))) ∙ inv
