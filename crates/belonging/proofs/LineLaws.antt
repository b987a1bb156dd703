-- A line of the text, as far as the text goes. Assumes nothing.
use Prim.Native.Nat.{◌-◌, ◌≤◌, ℕ}
use lib.ListN.{drop, drop_of_length-le, length, length-drop, take}
use lib.Seq.{take_all, take-nil}
use mathlib.Core.List.{List, []}
use mathlib.Core.Path.{◌∙◌, ◌≡◌, ap, sym}
use native.Mathlib.Omega.{arith}
use Rattle.workspace.specs.Cells.{line_in}

module _ (text : List ℕ) (a e : ℕ) where
  -- it ends before it starts
  pub line_empty : e ≤ a → [] ≡ line_in text a e
  line_empty l =
      let z : e - a ≡ 0 = omega (arith, l) in
      ap (λ n. take n (drop a text)) (sym z)

  -- it starts past the text
  pub line_past : length text ≤ a → [] ≡ line_in text a e
  line_past l = sym (take-nil (e - a)) ∙ ap (take (e - a)) (sym (drop_of_length-le text l))

  -- it ends past the text
  pub line_cut : length text ≤ e → take (length text - a) (drop a text) ≡ line_in text a e
  line_cut l =
      take_all (length text - a) (drop a text) (omega (arith, length-drop a text))
      ∙ sym (take_all (e - a) (drop a text) (omega (arith, length-drop a text, l)))
