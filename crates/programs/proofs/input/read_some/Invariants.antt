-- The buffer keeps its length, and the reads that failed left the input's known bytes as they were.
use Rattle.std.proofs.Common.{length, ◌≡◌}
use Rattle.std.specs.Io.KnownBytes.{Keeps}
use Rattle.programs.proofs.input.read_some.Given as goal

abbrev pub invariant-loop : goal.invariant-loop
invariant-loop g l = (length l.buf ≡ length l.initial.buf) × Keeps (g.I.Read.remaining l.initial.input) (g.I.Read.remaining l.input)
