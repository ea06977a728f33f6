-- What is found is the lightest of the edges passed, whatever the closure picks by.
use Rattle.std.proofs.Common.{◌≡◌, ℕ, Bool}
use Rattle.node.specs.Rules.{lightest, Picks}
use Rattle.node.proofs.state.Node.lightest.Given as goal

abbrev pub invariant-loop-edge : goal.invariant-loop-edge
invariant-loop-edge g l = (p : ℕ → Bool) → Picks (goal.F-post g l.picks) p → l.found ≡ lightest l.self p l.edge
