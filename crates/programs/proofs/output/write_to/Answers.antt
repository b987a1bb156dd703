use Rattle.std.proofs.Common.{◌≡◌, ℕ, ◌+◌, ◌-◌, ◌≤◌, List, ◌++◌, rules, arith, length, take, drop, sym, ap, ◌∙◌, subst}
use Rattle.std.specs.Io.KnownBytes.{Appends}
use Rattle.std.proofs.KnownBytes.{Appends-trans}
use lib.Seq.{take-add, take-take}
use Rattle.programs.proofs.output.write_to.Goals as goal

take_more : (a n k : ℕ) (xs : List ℕ) → n ≤ k → take a xs ++ take n (take k (drop a xs)) ≡ take (a + n) xs
take_more a n k xs h = ap (λ l. take a xs ++ l) (take-take n k (drop a xs) h) ∙ sym (take-add a n xs)

pub loop-done-preserved : goal.loop-done-preserved
loop-done-preserved g c =
    let h : c.in-Ok.n ≤ length c.args.bytes.now - c.loop-done.done = search rules in
    (omega arith, subst (Appends _ _) (take_more c.loop-done.done c.in-Ok.n _ c.args.bytes.now h) (Appends-trans _ _ _ _ _ c.loop-done.invariant.1 c.in-Ok.ensures.bytes))
