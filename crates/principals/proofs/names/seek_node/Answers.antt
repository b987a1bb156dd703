-- `principals::names::seek_node` meets its contract: the word's end and its hash are found first, and a hash is a slot's number.
-- Assumes nothing.
use Prim.Native.Nat.{◌<◌}
use mathlib.Core.Path.{subst, sym}
use native.Mathlib.Omega.{arith}
use Rattle.workspace.proofs.HashLaws.{hash_below}
use Rattle.workspace.specs.Hash.{slots}
use Rattle.text.specs.Words.{word_at}
use Rattle.principals.proofs.names.seek_node.Goals as goal

pub find_node-found-requires : goal.find_node-found-requires
find_node-found-requires c = (c.requires.0, c.requires.1, subst (λ m. m < slots) (sym c.hash_word-w.ensures.is) (hash_below (word_at c.args.line.now c.args.i)))

pub returns : goal.returns
returns c = record {
  ends = c.hash_word-w.ensures.ends;
  hash = c.hash_word-w.ensures.is;
  is = λ ns n. c.find_node-found.ensures.0 ns n (omega (arith, c.hash_word-w.ensures.ends)) c.hash_word-w.ensures.is;
  below = c.find_node-found.ensures.1;
}
