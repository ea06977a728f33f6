-- The bridge from the rules at a node's places to deeds among its neighbours: each message taken, each waking, each message deferred.
use Rattle.std.proofs.Common.{◌≡◌, ℕ, ◌+◌, ◌<◌, Bool, true, false, cond, ◌&&◌, ◌||◌, List, [], ◌++◌, length, get_or, Some, None, sym, refl, ap, ◌∙◌, subst, arith, Option}
use Rattle.node.proofs.Took.{Took, Woke, absorbed, merged, joined_finding, joined_found, accepts, rejects, tests_on, accepted, rejected, heard_child, changed_by, settled, changed, awake, alone, connects}
use Rattle.message.specs.declared.messages.Message.{Message}
use Rattle.message.specs.declared.messages.Message.TheVariants.{Connect, Initiate, Test, Accept, Reject, Report, Change}
use Rattle.node.specs.declared.state.Status.{Status}
use Rattle.node.specs.declared.state.Status.TheVariants.{Find}
use Rattle.graph.specs.declared.mark.Mark.TheVariants.{Branch}
use Rattle.node.specs.declared.state.Node.{Node}
use Rattle.node.specs.declared.state.Turn.{Turn}
use Rattle.node.specs.Rules.{is_basic, is_sleeping, is_find, phase_of, is_nothing, lighter, is_edge, has_edge, mark_of, weight_of, silent}
use Rattle.graph.specs.Graph.{Graph}
use Rattle.protocol.proofs.Bridge.{Bridged, below-++, below_onward, sent_none, sent_one, sent_onward}
use Rattle.protocol.proofs.Deed.{woke, got, one, Deed, Alone, WokeTo, Absorbs, Merges, Begins, Accepts, Rejects, Crosses-ask, Crosses-report, Crosses-wait, Accepted-report, Accepted-wait, Rejected-ask, Rejected-report, Rejected-wait, Hears-report, Hears-wait, Decides-passes, Decides-joins, Halts, Rests, Changed-passes, Changed-joins}
use Rattle.protocol.proofs.Doing.{reports_is, shape_untested, shape_heard, reject_bridged}
use Rattle.protocol.proofs.Done.{held_absorbing, held_joining, search_bridged, report_bridged, change_bridged, back_bridged, yes_edge, no_edge}
use Rattle.protocol.proofs.Held.{Held, put, marking, rejecting, testing_now, counting, hearing, halting, bettering, onward, woken_held}
use Rattle.protocol.proofs.Lift.{held_of}
use Rattle.protocol.proofs.Shape.{Shape, inside_of, marked, held_branching, held_rejecting, held_bettering, picks_any, nobody_any}
use Rattle.node.specs.Rules as rules
use Rattle.message.specs.declared.messages.Phase.TheVariants as phase

module _ (g : Graph) (i : ℕ) (near : List ℕ) (n : Node) (s : Shape g i near n) (inside : i < g.count) where
  abbrev at : ℕ → ℕ
  at j = get_or near j 0

  abbrev k : Held
  k = held_of near n

  awake_not : (x : Status) → is_find x ≡ false → x ≡ Find → ⊥
  awake_not x e u = let z : is_find Find ≡ false = subst (λ v. is_find v ≡ false) u e in grind arith

  -- a report from the parent that is not acted on, or ends all
  settles : (j : ℕ) (w : Option ℕ) → is_edge n.parent j ≡ true → is_find n.status ≡ false → lighter (rules.best_weight n.best) w ≡ false → Bridged g i near n (got (at j) (Report w)) (rules.turn (rules.halting w n) silent)
  settles j w p f l = go (is_nothing w && is_nothing (rules.best_weight n.best)) refl
    where
      par : k.parent ≡ Some (at j)
      par = yes_edge g i near n s inside n.parent j p

      still : k.status ≡ Find → ⊥
      still = awake_not n.status f

      nothing : (v : Option ℕ) → is_nothing v ≡ true → v ≡ None
      nothing None e = refl
      nothing (Some x) e = absurd (grind arith)

      held : (b : Bool) → is_nothing w && is_nothing (rules.best_weight n.best) ≡ b → held_of near (rules.halting w n) ≡ cond b (halting k) k
      held true e = λ u. record { status = n.status; mark = k.mark; level = n.level; name = n.name; find_count = n.find_count; parent = k.parent; best = k.best; best_weight = k.best_weight; testing = k.testing; halted = yes' u }
        where
          yes' : (n.halted || (is_nothing w && is_nothing (rules.best_weight n.best))) ≡ true
          yes' = ap (λ x. n.halted || x) e ∙ or_true n.halted
            where
              or_true : (x : Bool) → (x || true) ≡ true
              or_true true = refl
              or_true false = refl
      held false e = λ u. record { status = n.status; mark = k.mark; level = n.level; name = n.name; find_count = n.find_count; parent = k.parent; best = k.best; best_weight = k.best_weight; testing = k.testing; halted = no'' u }
        where
          no'' : (n.halted || (is_nothing w && is_nothing (rules.best_weight n.best))) ≡ n.halted
          no'' = ap (λ x. n.halted || x) e ∙ or_false n.halted
            where
              or_false : (x : Bool) → (x || false) ≡ x
              or_false true = refl
              or_false false = refl

      go : (b : Bool) → is_nothing w && is_nothing (rules.best_weight n.best) ≡ b → Bridged g i near n (got (at j) (Report w)) (rules.turn (rules.halting w n) silent)
      go true e =
          record { os = []; deed = subst (λ v. Deed g i k (got (at j) (Report w)) v []) (sym (held true e)) (Halts par still (nothing (rules.best_weight n.best) (grind arith)) (nothing w (grind arith))); below = tt; sent = sent_none g i near n s inside }
      go false e =
          record { os = []; deed = subst (λ v. Deed g i k (got (at j) (Report w)) v []) (sym (held false e)) (Rests par still l e); below = tt; sent = sent_none g i near n s inside }

  pub took_bridged : (j : ℕ) (m : Message) (t : Turn) → has_edge n j ≡ true → Took n j m t → Bridged g i near n (got (at j) m) t
  took_bridged j _ _ e (absorbed l a b) =
      let p = inside_of g i near n s j e in
      back_bridged g i near n s inside (got (at j) (Connect l)) (rules.absorbing j n) (counting (cond (is_find n.status) 1 0) (marking (at j) Branch k)) j (Initiate n.level n.name (phase_of n.status)) p (held_absorbing g i near n s inside j p) (Absorbs a)
  took_bridged j _ _ e (merged l a b c) =
      let p = inside_of g i near n s j e in
      back_bridged g i near n s inside (got (at j) (Connect l)) n k j (Initiate (n.level + 1) (weight_of n j) phase.Find) p refl
      (subst (λ v. Deed g i k (got (at j) (Connect l)) k (one (at j) (Initiate (n.level + 1) v phase.Find))) (sym (s.weigh j p)) (Merges (omega arith) (λ u. let q = marked g i near n s j p in grind arith)))
  took_bridged j _ _ e (joined_finding l f a) = search_bridged g i near n s inside j l f e
  took_bridged j _ _ e (joined_found l f) =
      let p = inside_of g i near n s j e in
      let h = held_joining g i near n s inside j l f n.find_count phase.Found (omega arith) in
      record {
        os = onward k (at j) (Initiate l f phase.Found) g.count ++ [];
        deed = subst (λ v. Deed g i k (got (at j) (Initiate l f phase.Found)) v (onward k (at j) (Initiate l f phase.Found) g.count ++ [])) (sym h) (Begins (λ u. grind arith));
        below = below-++ g.count (onward k (at j) (Initiate l f phase.Found) g.count) [] (below_onward k (at j) (Initiate l f phase.Found) g.count g.count (omega arith)) tt;
        sent = sent_onward g i near n s inside j (Initiate l f phase.Found) p;
      }
  took_bridged j _ _ e (accepts l f a b) = back_bridged g i near n s inside (got (at j) (Test l f)) n k j Accept (inside_of g i near n s j e) refl (Accepts (omega arith) (λ u. grind arith))
  took_bridged j _ _ e (rejects l f a b c) =
      let p = inside_of g i near n s j e in
      back_bridged g i near n s inside (got (at j) (Test l f)) (rules.rejecting j n) (rejecting (at j) k) j Reject p (held_rejecting g i near n s j p) (Rejects (omega arith) (omega arith) (no_edge g i near n s inside n.testing j s.within.testing_there p c))
  took_bridged j _ _ e (tests_on l f a b c) =
      let y = yes_edge g i near n s inside n.testing j c in
      reject_bridged g i near n s inside (got (at j) (Test l f)) j e (λ m q. Crosses-ask m a b y q) (λ z q. Crosses-report a b y z q refl) (λ z q. Crosses-wait a b y z q)
  took_bridged j _ _ e (accepted c) =
      let p = inside_of g i near n s j e in
      let h = held_bettering g i near (rules.testing None n) (shape_untested g i near n s inside) j (Some (weight_of n j)) ∙ ap (λ v. bettering (at j) (Some v) (testing_now None k)) (s.weigh j p) in
      report_bridged g i near n s inside (got (at j) Accept) (rules.bettering j (Some (weight_of n j)) (rules.testing None n)) (bettering (at j) (Some (g.weight i (at j))) (testing_now None k)) refl h
      (λ a b. Accepted-report a b) (λ a. Accepted-wait a) (rules.reports (rules.bettering j (Some (weight_of n j)) (rules.testing None n)) silent) (reports_is (rules.bettering j (Some (weight_of n j)) (rules.testing None n)) silent)
  took_bridged j _ _ e (rejected c) = reject_bridged g i near n s inside (got (at j) Reject) j e (λ m q. Rejected-ask m q) (λ z q. Rejected-report z q refl) (λ z q. Rejected-wait (record { nobody = λ y a b c. z.nobody y a b (grind arith) }) q)
  took_bridged j _ _ e (heard_child w c) =
      let p = inside_of g i near n s j e in
      let away = no_edge g i near n s inside n.parent j s.within.parent_there p c in
      report_bridged g i near n s inside (got (at j) (Report w)) (rules.bettering j w (rules.heard n)) (bettering (at j) w (hearing k)) refl (held_bettering g i near (rules.heard n) (shape_heard g i near n s inside) j w)
      (λ a b. Hears-report away a b) (λ a. Hears-wait away a) (rules.reports (rules.bettering j w (rules.heard n)) silent) (reports_is (rules.bettering j w (rules.heard n)) silent)
  took_bridged j _ _ e (changed_by w y v p f l h) =
      let par = yes_edge g i near n s inside n.parent j p in
      change_bridged g i near n s inside (got (at j) (Report w)) y v h (λ a b. Decides-passes (at y) par (awake_not n.status f) l a b) (λ a b. Decides-joins (at y) par (awake_not n.status f) l a b)
  took_bridged j _ _ e (settled w p f l) = settles j w p f l
  took_bridged j _ _ e (changed y v h) = change_bridged g i near n s inside (got (at j) Change) y v h (λ a b. Changed-passes (at y) a b) (λ a b. Changed-joins (at y) a b)

  pub woke_bridged : is_sleeping n.status ≡ true → (t : Turn) → Woke n t → Bridged g i near n woke t
  woke_bridged z _ (awake a) = absurd (grind arith)
  woke_bridged z _ (alone a e) = record { os = []; deed = Alone (nobody_any g i near n s e inside); below = tt; sent = sent_none g i near n s inside }
  woke_bridged z _ (connects j a e) =
      let p = picks_any g i near n s j e in
      record { os = one (at j) (Connect 0); deed = subst (λ v. Deed g i k woke v (one (at j) (Connect 0))) (sym (held j p.0)) (WokeTo (at j) p.1); below = ((s.real j p.0).1, tt); sent = sent_one g i near n s inside j (Connect 0) p.0 }
    where
      held : (j : ℕ) → j < length near → held_of near (rules.woken_by (Some j) n).node ≡ woken_held n.halted (put (at j) Branch k.mark) k
      held j l = ap (λ q. woken_held n.halted q.mark k) (held_branching g i near n s j l)
