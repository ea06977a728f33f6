-- All invariants together, and that one step of the ghost keeps them all.
use Rattle.std.proofs.Common.{◌≡◌, ℕ, ◌⊎◌, None, refl, ap, inl}
use Rattle.node.specs.declared.state.Status.TheVariants.{Sleeping, Find}
use Rattle.graph.specs.Graph.{Graph, Edge, Weights}
use Rattle.protocol.proofs.Asleep.{Alones, alones_start, alones_step, fresh_of, lone_of}
use Rattle.protocol.proofs.Base.{Good, good_start, good_step}
use Rattle.protocol.proofs.Belonging.{Belonging, belonging_start, belonging_kept}
use Rattle.protocol.proofs.Bests.{Bests, bests_start, knows_of, bests}
use Rattle.protocol.proofs.Busy.{Busy, busy_start, busy_step}
use Rattle.protocol.proofs.Exchange.{Exchanges, exchanges_start, exchanges_step}
use Rattle.protocol.proofs.Charged.{Charged, charged_start, charged_step}
use Rattle.protocol.proofs.Control.{control}
use Rattle.protocol.proofs.CoreEdge.{CoreEdges, core_start, core_step}
use Rattle.protocol.proofs.Deeds.{Knows}
use Rattle.protocol.proofs.Edges.{Rest, Edges, first, edges_start, next}
use Rattle.protocol.proofs.Ended.{Ended, ended_start, ended_kept}
use Rattle.protocol.proofs.Ending.{Standing}
use Rattle.protocol.proofs.FindCount.{FindCount, find_count_start, quiet_of, late_of, find_count_lem}
use Rattle.protocol.proofs.Finished.{Finished}
use Rattle.protocol.proofs.FinishedStep.{finished_start, Dormant, finished_kept}
use Rattle.protocol.proofs.Frame.{start, Lifted, Event}
use Rattle.protocol.proofs.Ghost.{Ghost, view}
use Rattle.protocol.proofs.Inside.{Insides, insides_start, insides_step}
use Rattle.protocol.proofs.LeastOutgoing.{Outward}
use Rattle.protocol.proofs.LeastStep.{Trust, outward_start, outward_kept}
use Rattle.protocol.proofs.Mode.{Sane}
use Rattle.protocol.proofs.Names.{Names, names_start, comes_of, names_asked, names_step}
use Rattle.protocol.proofs.Raised.{Raises, raises_start, raises_step, trust_of}
use Rattle.protocol.proofs.SaneStep.{sane_start, sane_step}
use Rattle.protocol.proofs.Sizes.{Sizes, sizes_start, sizes_step}
use Rattle.protocol.proofs.Token.{Tokens}
use Rattle.protocol.proofs.TokenStep.{tokens_start, tokens_kept}
use Rattle.protocol.proofs.Zero.{Zeros, zeros_start, zeros_step}
use Rattle.protocol.proofs.Questions.{asked, Talks, talks_start, Others, rest_of}

-- what holds of every net that can be reached, with its ghost
pub record Inv (t : Graph) (n : Lifted) (γ : Ghost) : Type 0 where
  pub good : Good t n
  pub sane : (a y : ℕ) → Edge t a y → Sane y (view n γ a)
  pub edges : Edges t n γ
  pub talks : Talks t n γ
  pub seeks : (a : ℕ) → ((n.held a).testing ≡ None) ⊎ ((n.held a).status ≡ Find)
  pub bests : Bests t n γ
  pub counts : FindCount t n γ
  pub names : Names t n γ
  pub alones : Alones t n γ
  pub zeros : Zeros t n γ
  pub raises : Raises t n γ
  pub outward : Outward t (view n γ)
  pub finished : Finished (view n γ)
  pub ended : Ended (view n γ)
  pub tokens : Tokens t (view n γ)
  pub sizes : Sizes t γ
  pub insides : Insides t n γ
  pub cores : CoreEdges t n γ
  pub belonging : Belonging t n
  pub charged : Charged t n γ
  pub busy : (a : ℕ) → Busy (n.held a)
  pub exchanges : Exchanges t n γ

module _ (t : Graph) (weights : Weights t) where
  module _ (n : Lifted) (γ : Ghost) (I : Inv t n γ) where
    knows : (i y : ℕ) → Edge t i y → ((n.held i).status ≡ Sleeping → ⊥) → Knows t i y (view n γ i) (view n γ y) (control (n.way i y)) (control (n.way y i))
    knows i y l a = knows_of t weights n γ I.good I.sane I.bests I.seeks i y l (quiet_of t weights n γ I.good I.sane I.edges I.counts i y l)

    pub others : Others t weights n γ
    others = record { sane = I.sane; knows = knows; comes = comes_of t weights n I.good; names = names_asked t weights n γ I.names I.seeks; fresh = fresh_of t weights n γ I.alones; lone = lone_of t weights n γ I.alones; late = late_of t weights n γ I.good I.sane I.edges I.counts }

    pub rest : Rest t n γ
    rest = rest_of t weights n γ others I.seeks I.talks

    -- what the end is shown from
    pub standing : Standing t n γ
    standing =
        record { sane = I.sane; edges = I.edges; bests = I.bests; outward = I.outward; finished = I.finished; ended = I.ended; alones = I.alones; zeros = I.zeros; asks = I.seeks }

    dormant : Dormant n γ
    dormant i u = let s = (I.alones.sleepers i u).made in (ap (λ V. V.own.in_search) s, ap (λ V. V.held.halted) s)

  pub inv_start : Inv t start first
  inv_start =
      record {
        good = good_start t weights;
        sane = sane_start t;
        edges = edges_start t;
        talks = talks_start t;
        seeks = λ a. inl refl;
        bests = bests_start t;
        counts = find_count_start t;
        names = names_start t;
        alones = alones_start t;
        zeros = zeros_start t;
        raises = raises_start t;
        outward = outward_start t;
        finished = finished_start;
        ended = ended_start;
        tokens = tokens_start t;
        sizes = sizes_start t;
        insides = insides_start t;
        cores = core_start t;
        belonging = belonging_start t;
        charged = charged_start t;
        busy = busy_start;
        exchanges = exchanges_start t;
      }

  module _ (n m : Lifted) (γ : Ghost) (I : Inv t n γ) (v : Event t n m) where
    pub trust : Trust t n γ
    trust = trust_of t n γ I.good (rest n γ I) I.edges (λ a y l. (I.bests.choice a y l).lightest) I.seeks I.alones I.raises

    pub inv_step : Inv t m (next γ v)
    inv_step =
        let r = rest n γ I in
        let a = asked t weights n m γ (others n γ I) I.seeks I.edges I.talks v in
        record {
          good = good_step t weights v I.good;
          sane = sane_step t weights n m γ trust I.alones v;
          edges = a.0;
          talks = a.1;
          seeks = a.2;
          bests = bests t weights n m γ I.good r I.edges I.talks I.bests v;
          counts = find_count_lem t weights n m γ I.good r I.edges I.counts v;
          names = names_step t weights n m γ I.good I.edges I.names v;
          alones = alones_step t weights n m γ I.good I.alones v;
          zeros = zeros_step t weights n m γ I.good I.edges I.talks I.seeks I.names I.alones I.zeros v;
          raises = raises_step t weights n m γ I.good I.names I.alones I.raises v;
          outward = outward_kept t weights n m γ trust I.outward v;
          finished = finished_kept t weights n m γ trust (dormant n γ I) I.outward I.finished v;
          ended = ended_kept t weights n m γ trust I.alones I.outward I.finished I.ended v;
          tokens = tokens_kept t weights n m γ trust I.outward I.tokens v;
          sizes = sizes_step t weights n m γ I.good I.sane I.edges I.sizes v;
          insides = insides_step t weights n m γ I.good I.sane I.edges I.insides v;
          cores = core_step t weights n m γ I.good I.sane (lone_of t weights n γ I.alones) I.edges I.cores v;
          belonging = belonging_kept t weights n m γ trust I.outward v I.belonging;
          charged = charged_step t weights n m γ I.good r I.edges I.talks I.alones I.charged v;
          busy = busy_step v I.busy;
          exchanges = exchanges_step t weights n m γ I.good I.sane I.edges I.bests I.exchanges v;
        }
