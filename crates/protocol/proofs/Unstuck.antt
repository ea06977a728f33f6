-- All that never stuck is shown from, out of the invariants.
use Rattle.std.proofs.Common.{◌≡◌, ℕ, ap, ◌∙◌, inl, inr, arith, Option}
use Rattle.graph.specs.Graph.{Graph, Edge}
use Rattle.protocol.proofs.Edges.{Edges}
use Rattle.protocol.proofs.Frame.{Lifted}
use Rattle.protocol.proofs.Ghost.{Least, undecided, decided, Ghost, view}
use Rattle.protocol.proofs.Invariant.{Inv}
use Rattle.protocol.proofs.Mode.{Sane}
use Rattle.protocol.proofs.Stuck.{Announced, Announces, Grounds}
use Rattle.protocol.proofs.Token.{Token, Tokens, token_is}

not_undecided : {l : Least} {v : Option ℕ} → l ≡ decided v → l ≡ undecided → ⊥
not_undecided a b = grind arith

-- a fragment that has its token has announced what it decided
pub announces_of : (t : Graph) (n : Lifted) (γ : Ghost) → ((a y : ℕ) → Edge t a y → Sane y (view n γ a)) → Edges t n γ → Tokens t (view n γ) → Announces t n γ
announces_of t n γ sane E T x w e = go (T x w e)
  where
    go : (s : ℕ) × ((g : ℕ) × Token t (view n γ) x s g) → (s : ℕ) × ((g : ℕ) × Announced t n γ x s g)
    go (s, (g, k)) = (s, (g, record { edge = k.edge; label = k.label; word = elim (token_is (sane s g k.edge) k.up k.changed (not_undecided (ap (λ z. (γ.fragment z).least) k.label ∙ e)) (λ q. ap γ.fragment q) k.meets (E s g k.edge)) [ inl q ↦ inl q | inr q ↦ inr q.0 ] }))

pub grounds_of : (t : Graph) (n : Lifted) (γ : Ghost) → Inv t n γ → Grounds t n γ
grounds_of t n γ I =
    record {
      good = I.good;
      sane = I.sane;
      edges = I.edges;
      talks = I.talks;
      counts = I.counts;
      cores = I.cores;
      outward = I.outward;
      finished = I.finished;
      insides = I.insides;
      zeros = I.zeros;
      alones = I.alones;
      busy = I.busy;
      exchanges = I.exchanges;
      announces = announces_of t n γ I.sane I.edges I.tokens;
    }
