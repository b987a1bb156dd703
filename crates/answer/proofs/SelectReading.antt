-- Reading the text of a select: another purpose in it gives the same query for that purpose, up to places. Assumes nothing.
use Prim.Native.Nat.{◌+◌, ℕ}
use lib.Dec.{leb}
use lib.ListN.{length}
use mathlib.Core.Bool.{Bool, cond, false, true}
use mathlib.Core.List.{List, ◌++◌, ◌∷◌, map}
use mathlib.Core.Option
use mathlib.Core.Option.{Option, none-ne-some, some-injective, bind, none, some}
use mathlib.Core.Path.{◌∙◌, ◌≡◌, ap, refl, subst, sym}
use Rattle.condition.proofs.CondPlaces.{condition_in_form_agree}
use Rattle.condition.specs.CondForm.{condition_in_form}
use Rattle.answer.specs.Further.{select_text}
use Rattle.query.proofs.Below.{for_purpose}
use Rattle.query.proofs.QueryPlaceless.{bounds_placeless, placeless_query}
use Rattle.query.specs.QueryForm.{QueryForm, column_list, if_within_bounds, map_wanted, query_body, query_form, query_forms, query_of, rows_of, select, selected_words, wanted_rows, within_bounds}
use Rattle.text.proofs.ByteLaws.{name_name_bytes, run_stops}
use Rattle.lists.proofs.ListLaws.{drop_append}
use Rattle.text.proofs.NameLaws.{same_name_length}
use Rattle.text.proofs.Places.{Agree, Same, bind_agree, bracketed_agree, byte_agree, each, give_agree, many_agree, neither, next_agree, optional_agree, then_agree, word_that_agree}
use Rattle.text.proofs.ReadBack.{left, placeless}
use Rattle.text.proofs.ReaderLaws.{then_some}
use Rattle.text.proofs.WordLaws.{same_name_bytes}
use Rattle.text.specs.Brackets.{among, bracketed, keyword, next, optional}
use Rattle.text.specs.Bytes.{ascii, first_byte, is_digit, is_letter, is_name_byte}
use Rattle.lists.specs.Lists.{all_of, is_empty}
use Rattle.text.specs.Names.{Name, is_name, same_name}
use Rattle.text.specs.Reader.{Left, Reader, ◌>>=◌, ◌>>◌, and_then, byte, ended, give, whole}
use Rattle.text.specs.Words.{Word, is_called, name, word, word_that}

-- what stands behind the purpose, given the words before it
unfoldable behind_purpose : Word → Word → Word → Reader QueryForm
behind_purpose u r p = do
  t ← next name
  w ← wanted_rows select
  c ← optional condition_in_form
  give (record { user = u; role = r; purpose = p; table = t; wanted = w; condition = c })

-- a name behind a space
name_next : {B : Type 0} (f : Word → Reader B) (at : ℕ) (w rest : List ℕ) → is_name w ≡ true → is_name_byte (first_byte rest) ≡ false
    → (next name >>= f) (left at (32 ∷ (w ++ rest))) ≡ f (record { at = at + 1; bytes = w }) (left (at + 1 + length w) rest)
unfolding next word_that byte word
name_next f at w rest h k = rw (run_stops w rest (name_name_bytes w h) k, h, drop_append w rest)

module _ (u r : Name) (rest : List ℕ) (is_u : is_name u ≡ true) (is_r : is_name r ≡ true) where
  -- the words of the user and the role, and where the purpose stands
  user_word : Word
  user_word = record { at = 8; bytes = u }

  role_word : Word
  role_word = record { at = 8 + length u + 1; bytes = r }

  unfoldable pub purpose_at : ℕ
  purpose_at = 8 + length u + 1 + length r + 1

  body_reads : (p : Name) → is_name p ≡ true → query_body (wanted_rows select) (left 7 (32 ∷ (u ++ 32 ∷ (r ++ 32 ∷ (p ++ 32 ∷ rest)))))
      ≡ behind_purpose user_word role_word (record { at = purpose_at; bytes = p }) (left (purpose_at + length p) (32 ∷ rest))
  unfolding query_body behind_purpose user_word role_word purpose_at is_name_byte is_letter is_digit
  body_reads p is_p = name_next _ 7 u _ is_u refl ∙ name_next _ (8 + length u) r _ is_r refl ∙ name_next _ (8 + length u + 1 + length r) p _ is_p refl

-- the form, behind the purpose
unfoldable tail : Word → Word → Word → Reader QueryForm
tail u r p = do
  x ← behind_purpose u r p
  byte 41
  give x

-- the keyword `select`, in any case of letters, calls for the body of a select
keyword_select : (k bs : List ℕ) → same_name k (ascii "select") ≡ true → keyword query_forms (left 1 (k ++ 32 ∷ bs)) ≡ query_body (wanted_rows select) (left 7 (32 ∷ bs))
unfolding keyword word query_forms among is_called all_of is_name_byte is_letter is_digit
keyword_select k bs e =
    rw (run_stops k (32 ∷ bs) (same_name_bytes k (ascii "select") e refl) refl, drop_append k (32 ∷ bs), same_name_length k (ascii "select") e, e)

form_reads : (k u r p : Name) (rest : List ℕ) → same_name k (ascii "select") ≡ true → (is_u : is_name u ≡ true) (is_r : is_name r ≡ true) → is_name p ≡ true
    → whole query_form (select_text k u r p rest)
    ≡ ended (tail (user_word u r rest is_u is_r) (role_word u r rest is_u is_r) (record { at = purpose_at u r rest is_u is_r; bytes = p }) (left (purpose_at u r rest is_u is_r + length p) (32 ∷ rest)))
unfolding whole tail query_form bracketed byte select_text
form_reads k u r p rest is_k is_u is_r is_p =
    ap (λ o. ended (and_then o (λ x. byte 41 >> give x))) (keyword_select k (u ++ 32 ∷ (r ++ 32 ∷ (p ++ 32 ∷ rest))) is_k ∙ body_reads u r rest is_u is_r p is_p)

columns_agree : Agree (map_wanted placeless) (wanted_rows select) (wanted_rows select)
unfolding wanted_rows column_list map_wanted
columns_agree =
    bind_agree (next_agree (bracketed_agree (bind_agree (word_that_agree is_name) (λ c c' e. bind_agree (many_agree (word_that_agree is_name)) (λ cs cs' es. give_agree _ _ (λ i. e i ∷ es i))))))
    (λ cs cs' e. give_agree _ _ (ap (rows_of select) e))

tail_agree : (u r p : Word) → Agree placeless_query (tail u r p) (tail u r p)
unfolding tail behind_purpose placeless_query
tail_agree u r p =
    bind_agree (bind_agree (next_agree (word_that_agree is_name)) (λ t t' e. bind_agree columns_agree (λ cs cs' f. bind_agree (optional_agree condition_in_form_agree) (λ c c' g.
    give_agree _ _ (λ i. record { user = placeless u; role = placeless r; purpose = placeless p; table = e i; wanted = f i; condition = g i })))))
    (λ x y e. then_agree (byte_agree 41) (give_agree x y e))

-- ---- another purpose in the same place gives the same query for that purpose

swap : Word → QueryForm × Left → QueryForm × Left
swap w x = (for_purpose w x.0, x.1)

then_map : {A B C : Type 0} (g : B × Left → C × Left) (o : Option (A × Left)) (f : A → Reader B) (f' : A → Reader C) → ((x : A) (l : Left) → f' x l ≡ Option.map g (f x l)) → and_then o f' ≡ Option.map g (and_then o f)
then_map g none f f' h = refl
then_map g (some r) f f' h = h r.0 r.1

behind_swap : (u r p w : Word) (l : Left) → behind_purpose u r w l ≡ Option.map (swap w) (behind_purpose u r p l)
unfolding behind_purpose swap for_purpose
behind_swap u r p w l =
    then_map (swap w) (next name l) _ _ (λ t l. then_map (swap w) (wanted_rows select l) _ _ (λ cs l. then_map (swap w) (optional condition_in_form l) _ _ (λ c l. refl)))

tail_swap : (u r p w : Word) (l : Left) → tail u r w l ≡ Option.map (swap w) (tail u r p l)
unfolding tail swap
tail_swap u r p w l = rw (behind_swap u r p w l) (go (behind_purpose u r p l))
  where
    close : QueryForm → Reader QueryForm
    close x = byte 41 >> give x

    go : (o : Option (QueryForm × Left)) → and_then (Option.map (swap w) o) close ≡ Option.map (swap w) (and_then o close)
    go none = refl
    go (some x) = then_map (swap w) (byte 41 x.1) (λ b. give x.0) (λ b. give (for_purpose w x.0)) (λ b l. refl)

-- the second form, for the other purpose, ends the text where the first does
both_ended : (w : Word) {o o' : Option (QueryForm × Left)} → Same placeless_query o o' → (q : QueryForm) → ended o ≡ some q
    → (q' : QueryForm) × (ended (Option.map (swap w) o') ≡ some (for_purpose w q')) × (placeless_query q ≡ placeless_query q')
unfolding ended swap
both_ended w neither q h = absurd (none-ne-some _ h)
both_ended w (each {x} {y} {at} {at'} {bs} e) q h = go (is_empty bs) h
  where
    go : (b : Bool) → cond b (some x) none ≡ some q → (q' : QueryForm) × (cond b (some (for_purpose w y)) none ≡ some (for_purpose w q')) × (placeless_query q ≡ placeless_query q')
    go true k = (y, refl, ap placeless_query (sym (some-injective _ _ k)) ∙ e)
    go false k = absurd (none-ne-some _ k)

-- ---- a text that is a query

query_within : (text : List ℕ) (q : QueryForm) → query_of text ≡ some q → (whole query_form text ≡ some q) × (within_bounds q ≡ true)
unfolding query_of if_within_bounds bind
query_within text q = go (leb (length text) 4096) (whole query_form text)
  where
    in_bounds : (b : Bool) (x : QueryForm) → within_bounds x ≡ b → cond b (some x) none ≡ some q → (◌≡◌ {A = Option QueryForm} (some x) (some q)) × (within_bounds q ≡ true)
    in_bounds true x e k = (k, rw (← (some-injective x q k)) e)
    in_bounds false x e k = absurd (none-ne-some _ k)

    go : (b : Bool) (o : Option QueryForm) → cond b (bind o if_within_bounds) none ≡ some q → (o ≡ some q) × (within_bounds q ≡ true)
    go false o k = absurd (none-ne-some _ k)
    go true none k = absurd (none-ne-some _ k)
    go true (some x) k = in_bounds (within_bounds x) x refl k

query_is : (text : List ℕ) (q : QueryForm) → leb (length text) 4096 ≡ true → whole query_form text ≡ some q → within_bounds q ≡ true → query_of text ≡ some q
unfolding query_of if_within_bounds bind
query_is text q l h b = rw (l, h) (rw b)

-- whatever the reader gives has the property
record Always {A : Type 0} (P : A → Type 0) (m : Reader A) : Type 0 where
  on : (l : Left) (x : A × Left) → m l ≡ some x → P x.0

bind_always : {A B : Type 0} {Q : A → Type 0} {P : B → Type 0} (m : Reader A) (f : A → Reader B) → Always Q m → ((x : A) → Q x → Always P (f x)) → Always P (m >>= f)
bind_always m f h k = record { on = λ l y e. let r = then_some (m l) f y e in (k r.0.0 (h.on l r.0 r.1)).on r.0.1 y r.2 }

anything : {A : Type 0} (m : Reader A) → Always (λ _. Unit {0}) m
anything m = record { on = λ l x e. tt }

give_always : {A : Type 0} (P : A → Type 0) (x : A) → P x → Always P (give x)
give_always {A} P x h = record { on = λ l y e. subst (λ (z : A × Left). P z.0) (some-injective _ _ e) h }

-- a select for the purpose p
unfoldable pub IsSelect : Word → QueryForm → Type 0
IsSelect p q = (q.purpose ≡ p) × (ws : List Word) × (q.wanted ≡ rows_of select ws)

tail_select : (u r p : Word) → Always (IsSelect p) (tail u r p)
unfolding tail behind_purpose wanted_rows IsSelect
tail_select u r p =
    bind_always (behind_purpose u r p) _ (bind_always (next name) _ (anything (next name)) (λ t _.
    bind_always {Q = λ w. (ws : List Word) × (w ≡ rows_of select ws)} (wanted_rows select) _ (bind_always (next column_list) _ (anything (next column_list)) (λ ws _. give_always _ _ (ws, refl))) (λ cs w.
    bind_always (optional condition_in_form) _ (anything (optional condition_in_form)) (λ c _. give_always (IsSelect p) _ (refl, w.0, w.1)))))
    (λ x h. bind_always (byte 41) _ (anything (byte 41)) (λ b _. give_always (IsSelect p) x h))

ended_always : {P : QueryForm → Type 0} (m : Reader QueryForm) → Always P m → (l : Left) (q : QueryForm) → ended (m l) ≡ some q → P q
unfolding ended
ended_always {P} m h l q = go (m l) refl
  where
    go : (o : Option (QueryForm × Left)) → m l ≡ o → ended o ≡ some q → P q
    go none e k = absurd (none-ne-some _ k)
    go (some x) e k = at_end (is_empty x.1.bytes) k
      where
        at_end : (b : Bool) → cond b (some x.0) none ≡ some q → P q
        at_end true k = subst P (some-injective _ _ k) (h.on l x e)
        at_end false k = absurd (none-ne-some _ k)

bounds_for : (w : Word) (q : QueryForm) → within_bounds (for_purpose w q) ≡ within_bounds q
unfolding within_bounds selected_words for_purpose
bounds_for w q = refl

module _ (k u r p p' : Name) (rest : List ℕ) (is_k : same_name k (ascii "select") ≡ true) (is_u : is_name u ≡ true) (is_r : is_name r ≡ true) (is_p : is_name p ≡ true) (is_p' : is_name p' ≡ true) where
  -- the word of the other purpose
  unfoldable pub other : Word
  other = record { at = purpose_at u r rest is_u is_r; bytes = p' }

  -- the query for p is a select for p
  pub is_select_lem : (q : QueryForm) → query_of (select_text k u r p rest) ≡ some q → IsSelect (record { at = purpose_at u r rest is_u is_r; bytes = p }) q
  is_select_lem q h = ended_always _ (tail_select _ _ _) _ q (sym (form_reads k u r p rest is_k is_u is_r is_p) ∙ (query_within _ q h).0)

  -- the same select for p' is a query, the same up to places but for its purpose
  pub other_query : (q : QueryForm) → query_of (select_text k u r p rest) ≡ some q → leb (length (select_text k u r p' rest)) 4096 ≡ true
      → (q' : QueryForm) × (query_of (select_text k u r p' rest) ≡ some (for_purpose other q')) × (placeless_query q ≡ placeless_query q')
  unfolding other
  other_query q h l =
      let w = query_within _ q h in
      let uw : Word = user_word u r rest is_u is_r in
      let rw' : Word = role_word u r rest is_u is_r in
      let pw : Word = record { at = purpose_at u r rest is_u is_r; bytes = p } in
      let at : ℕ = purpose_at u r rest is_u is_r in
      let x = both_ended other ((tail_agree uw rw' pw).on (at + length p) (at + length p') (32 ∷ rest)) q (sym (form_reads k u r p rest is_k is_u is_r is_p) ∙ w.0) in
      let whole' : whole query_form (select_text k u r p' rest) ≡ some (for_purpose other x.0) = form_reads k u r p' rest is_k is_u is_r is_p' ∙ ap ended (tail_swap uw rw' pw other (left (at + length p') (32 ∷ rest))) ∙ x.1 in
      let bounds : within_bounds x.0 ≡ true = sym (bounds_placeless x.0) ∙ ap within_bounds (sym x.2) ∙ bounds_placeless q ∙ w.1 in
      (x.0, query_is _ _ l whole' (bounds_for other x.0 ∙ bounds), x.2)
