-- What a node does with a message at its places is a deed among its neighbours.
use Rattle.std.proofs.Common.{◌≡◌, ℕ, ◌<◌, Bool, true, false, cond, not, ◌&&◌, eqb, List, [], ◌++◌, length, get_or, set, is_some, Some, None, Option, sym, refl, ap, ◌∙◌, subst, arith, length-set}
use Rattle.node.proofs.Lightest.{lightest_picked}
use Rattle.std.proofs.lemmas.List.{get_or-set_other}
use Rattle.message.specs.declared.messages.Message.{Message}
use Rattle.message.specs.declared.messages.Message.TheVariants.{Test, Report}
use Rattle.message.specs.declared.messages.Phase.{Phase}
use Rattle.graph.specs.declared.mark.Mark.TheVariants.{Basic, Rejected}
use Rattle.node.specs.declared.state.Node.{Node}
use Rattle.node.specs.declared.state.Turn.{Turn}
use Rattle.node.specs.Rules.{is_basic, Sends, has_edge, mark_of, silent, sending, lightest, has_basic}
use Rattle.node.specs.Laws.{Within, There}
use Rattle.graph.specs.Graph.{Graph}
use Rattle.protocol.proofs.Bridge.{Bridged, below-++, sent_none, sent_one, sent_to}
use Rattle.protocol.proofs.Carry.{Below}
use Rattle.protocol.proofs.Deed.{In, one, opens, Picks, Nobody, Deed}
use Rattle.protocol.proofs.Held.{Send, Held, rejecting, testing_now, finding, send_to}
use Rattle.protocol.proofs.Lift.{toward, held_of}
use Rattle.protocol.proofs.Outs.{out_to}
use Rattle.protocol.proofs.Shape.{Shape, inside_of, held_rejecting, picks_basic, nobody_basic}
use Rattle.protocol.specs.Net.{over}
use Rattle.node.specs.Rules as rules

-- a report, if it may be made, and a test, if there is a basic edge
pub data Reported (o : Node) (x : Sends) : Turn → Type 0 where
  reported : o.find_count ≡ 0 → o.testing ≡ None → Reported o x (rules.turn (rules.found o) (rules.sending_to o.parent (Report (rules.best_weight o.best)) x))
  waiting : (eqb o.find_count 0 && not (is_some o.testing)) ≡ false → Reported o x (rules.turn o x)

pub reports_is : (o : Node) (x : Sends) → Reported o x (rules.reports o x)
reports_is o x = go (eqb o.find_count 0 && not (is_some o.testing)) refl
  where
    go : (b : Bool) → (eqb o.find_count 0 && not (is_some o.testing)) ≡ b →
        Reported o x (cond b (rules.turn (rules.found o) (rules.sending_to o.parent (Report (rules.best_weight o.best)) x)) (rules.turn o x))
    go true e = reported (grind arith) (nothing o.testing (grind arith))
      where
        nothing : (w : Option ℕ) → is_some w ≡ false → w ≡ None
        nothing None f = refl
        nothing (Some k) f = absurd (grind arith)
    go false e = waiting e

pub data Tested (o : Node) (x : Sends) : Turn → Type 0 where
  asked : (j : ℕ) → lightest o (has_basic o) 16 ≡ Some j → Tested o x (rules.turn (rules.testing (Some j) o) (sending j (Test o.level o.name) x))
  nobody : {t : Turn} → lightest o (has_basic o) 16 ≡ None → Reported (rules.testing None o) x t → Tested o x t

pub tests_is : (o : Node) (x : Sends) → Tested o x (rules.tests o x)
tests_is o x = go (lightest o (has_basic o) 16) refl
  where
    go : (w : Option ℕ) → lightest o (has_basic o) 16 ≡ w → Tested o x (rules.tests_by w o x)
    go None e = nobody e (reports_is (rules.testing None o) x)
    go (Some j) e = asked j e

-- the same places hold for another state of the node
pub reshape : {g : Graph} {i : ℕ} {near : List ℕ} {n : Node} (o : Node) → Shape g i near n → Within o → o.edges ≡ n.edges → o.weights ≡ n.weights → Shape g i near o
reshape o s w e f = record { within = w; edges = e ∙ s.edges; once = s.once; weigh = λ k l. ap (λ ws. get_or ws k 0) f ∙ s.weigh k l; real = s.real; every = s.every }

module _ (g : Graph) (i : ℕ) (near : List ℕ) (n : Node) (s : Shape g i near n) (inside : i < g.count) where
  abbrev at : ℕ → ℕ
  at j = get_or near j 0

  abbrev k : Held
  k = held_of near n

  w : Within n
  w = s.within

  pub shape_untested : Shape g i near (rules.testing None n)
  shape_untested = reshape (rules.testing None n) s (record { few = w.few; weight_places = w.weight_places; mark_places = w.mark_places; parent_there = w.parent_there; best_there = w.best_there; testing_there = tt; basic_beyond = w.basic_beyond }) refl refl

  pub shape_heard : Shape g i near (rules.heard n)
  shape_heard = reshape (rules.heard n) s (record { few = w.few; weight_places = w.weight_places; mark_places = w.mark_places; parent_there = w.parent_there; best_there = w.best_there; testing_there = w.testing_there; basic_beyond = w.basic_beyond }) refl refl

  pub shape_joining : (j l f : ℕ) (p : Phase) (c : ℕ) → has_edge n j ≡ true → Shape g i near (rules.joining j l f p c n)
  shape_joining j l f p c e = reshape (rules.joining j l f p c n) s (record { few = w.few; weight_places = w.weight_places; mark_places = w.mark_places; parent_there = e; best_there = tt; testing_there = w.testing_there; basic_beyond = w.basic_beyond }) refl refl

  pub shape_rejecting : (j : ℕ) → has_edge n j ≡ true → Shape g i near (rules.rejecting j n)
  shape_rejecting j e = reshape (rules.rejecting j n) s (record { few = w.few; weight_places = w.weight_places; mark_places = long (is_basic (mark_of n j)); parent_there = w.parent_there; best_there = w.best_there; testing_there = w.testing_there; basic_beyond = beyond (is_basic (mark_of n j)) }) refl refl
    where
      long : (b : Bool) → length (cond b (set n.marks j Rejected) n.marks) ≡ 16
      long true = length-set n.marks j Rejected ∙ w.mark_places
      long false = w.mark_places

      beyond : (b : Bool) → (m : ℕ) → has_edge n m ≡ false → is_basic (get_or (cond b (set n.marks j Rejected) n.marks) m Basic) ≡ true
      beyond true m f = let d : m ≡ j → ⊥ = λ u. different u in ap is_basic (get_or-set_other n.marks j m Rejected Basic d) ∙ w.basic_beyond m f
        where
          different : m ≡ j → ⊥
          different u = let z : has_edge n j ≡ false = subst (λ v. has_edge n v ≡ false) u f in grind arith
      beyond false m f = w.basic_beyond m f

  -- a node that tests or reports after it has come to o, with x sent so far
  module _ (inp : In) (o : Node) (x : Sends) (pre : List Send) (so : Shape g i near o) (early : Below g.count pre)
      (sentAsk : (j : ℕ) (m : Message) → j < length near → is_basic (mark_of o j) ≡ true → (b : ℕ) → out_to b (pre ++ one (at j) m) ≡ over near (sending j m x) b)
      (sentReport : (m : Message) (b : ℕ) → out_to b (pre ++ send_to (toward near o.parent) m) ≡ over near (rules.sending_to o.parent m x) b)
      (sentWait : (b : ℕ) → out_to b (pre ++ []) ≡ over near x b)
      (ask : (j : ℕ) → Picks g i (opens (held_of near o)) j → Deed g i k inp (testing_now (Some j) (held_of near o)) (pre ++ one j (Test o.level o.name)))
      (rep : Nobody g i (opens (held_of near o)) → o.find_count ≡ 0 → Deed g i k inp (finding (testing_now None (held_of near o))) (pre ++ send_to (toward near o.parent) (Report (rules.best_weight o.best))))
      (wait : Nobody g i (opens (held_of near o)) → (eqb o.find_count 0 && true) ≡ false → Deed g i k inp (testing_now None (held_of near o)) (pre ++ [])) where
    below_to : (q : Option ℕ) (m : Message) → There o q → Below g.count (send_to (toward near q) m)
    below_to None m t = tt
    below_to (Some j) m t = ((so.real j (inside_of g i near o so j t)).1, tt)

    pub ask_bridged : (t : Turn) → Tested o x t → Bridged g i near n inp t
    ask_bridged _ (asked j e) =
        let p = picks_basic g i near o so j e in
        let b : is_basic (mark_of o j) ≡ true = let l = lightest_picked o (has_basic o) 16 j e in grind arith in
        record { os = pre ++ one (at j) (Test o.level o.name); deed = ask (at j) p.1; below = below-++ g.count pre (one (at j) (Test o.level o.name)) early ((so.real j p.0).1, tt); sent = sentAsk j (Test o.level o.name) p.0 b }
    ask_bridged _ (nobody e (reported a b)) =
        let z = nobody_basic g i near o so e inside in
        record { os = pre ++ send_to (toward near o.parent) (Report (rules.best_weight o.best)); deed = rep z a; below = below-++ g.count pre (send_to (toward near o.parent) (Report (rules.best_weight o.best))) early (below_to o.parent (Report (rules.best_weight o.best)) so.within.parent_there); sent = sentReport (Report (rules.best_weight o.best)) }
    ask_bridged _ (nobody e (waiting a)) =
        let z = nobody_basic g i near o so e inside in
        record { os = pre ++ []; deed = wait z a; below = below-++ g.count pre [] early tt; sent = sentWait }

  -- after an edge was rejected
  pub reject_bridged : (inp : In) (j : ℕ) → has_edge n j ≡ true →
      ((m : ℕ) → Picks g i (opens (rejecting (at j) k)) m → Deed g i k inp (testing_now (Some m) (rejecting (at j) k)) (one m (Test n.level n.name))) →
      (Nobody g i (opens (rejecting (at j) k)) → n.find_count ≡ 0 → Deed g i k inp (finding (testing_now None (rejecting (at j) k))) (send_to (toward near n.parent) (Report (rules.best_weight n.best)))) →
      (Nobody g i (opens (rejecting (at j) k)) → (eqb n.find_count 0 && true) ≡ false → Deed g i k inp (testing_now None (rejecting (at j) k)) []) →
      Bridged g i near n inp (rules.tests (rules.rejecting j n) silent)
  reject_bridged inp j e ask rep wait =
      let l = inside_of g i near n s j e in
      let q = held_rejecting g i near n s j l in
      ask_bridged inp (rules.rejecting j n) silent [] (shape_rejecting j e) tt
      (λ m x p b. sent_one g i near n s inside m x p) (λ m. sent_to g i near n s inside n.parent m w.parent_there) (sent_none g i near n s inside)
      (λ m p. subst (λ v. Deed g i k inp (testing_now (Some m) v) (one m (Test n.level n.name))) (sym q) (ask m (subst (λ v. Picks g i (opens v) m) q p)))
      (λ z c. subst (λ v. Deed g i k inp (finding (testing_now None v)) (send_to (toward near n.parent) (Report (rules.best_weight n.best)))) (sym q) (rep (subst (λ v. Nobody g i (opens v)) q z) c))
      (λ z c. subst (λ v. Deed g i k inp (testing_now None v) []) (sym q) (wait (subst (λ v. Nobody g i (opens v)) q z) c))
      (rules.tests (rules.rejecting j n) silent) (tests_is (rules.rejecting j n) silent)
