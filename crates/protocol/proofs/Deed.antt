-- What a node did, flat: one case for each way through the rules, with the node afterwards and what it sends as indices.
use Rattle.std.proofs.Common.{◌≡◌, ℕ, ◌+◌, ◌<◌, ◌≤◌, Bool, true, false, cond, ◌&&◌, eqb, List, [], ◌∷◌, ◌++◌, Some, None, Option}
use Rattle.message.specs.declared.messages.Message.{Message}
use Rattle.message.specs.declared.messages.Message.TheVariants.{Connect, Initiate, Test, Accept, Reject, Report, Change}
use Rattle.message.specs.declared.messages.Phase.{Phase}
use Rattle.node.specs.declared.state.Status.TheVariants.{Find}
use Rattle.graph.specs.declared.mark.Mark.TheVariants.{Basic, Branch}
use Rattle.node.specs.Rules.{is_basic, is_find, phase_of, is_nothing, lighter}
use Rattle.graph.specs.Graph.{Graph}
use Rattle.protocol.proofs.Held.{Send, Held, is_none, put, marking, rejecting, testing_now, finding, counting, hearing, halting, bettering, joining, onward, send_to, woken_held}
use Rattle.message.specs.declared.messages.Phase.TheVariants as phase

-- what a node acts on: it wakes, or takes a message from j
pub data In : Type 0 where
  woke : In
  got : (j : ℕ) → Message → In

abbrev pub one : ℕ → Message → List Send
one j m = record { over = j; message = m } ∷ []

abbrev pub opens : Held → ℕ → Bool
opens h j = is_basic (h.mark j)

-- k is the nearest of those that a test picks; and it picks nobody
pub record Picks (t : Graph) (i : ℕ) (p : ℕ → Bool) (k : ℕ) : Type 0 where
  pub inside : k < t.count
  pub line : 1 ≤ t.weight i k
  pub picked : p k ≡ true
  pub least : (y : ℕ) → y < t.count → 1 ≤ t.weight i y → p y ≡ true → t.weight i k ≤ t.weight i y

pub record Nobody (t : Graph) (i : ℕ) (p : ℕ → Bool) : Type 0 where
  pub nobody : (y : ℕ) → y < t.count → 1 ≤ t.weight i y → p y ≡ true → ⊥

pub data Deed (t : Graph) (i : ℕ) (h : Held) : In → Held → List Send → Type 0 where
  Alone : Nobody t i (λ j. true) → Deed t i h woke (woken_held true h.mark h) ([])
  WokeTo : (k : ℕ) → Picks t i (λ j. true) k → Deed t i h woke (woken_held h.halted (put k Branch h.mark) h) (one k (Connect 0))
  Absorbs : {j l : ℕ} → l < h.level → Deed t i h (got j (Connect l)) (counting (cond (is_find h.status) 1 0) (marking j Branch h)) (one j (Initiate h.level h.name (phase_of h.status)))
  Merges : {j l : ℕ} → h.level ≤ l → (h.mark j ≡ Basic → ⊥) → Deed t i h (got j (Connect l)) (h) (one j (Initiate (h.level + 1) (t.weight i j) phase.Find))
  Begins : {j l f : ℕ} {s : Phase} → (s ≡ phase.Find → ⊥) → Deed t i h (got j (Initiate l f s)) (joining t j l f s h) (onward h j (Initiate l f s) t.count ++ [])
  Searches-ask : {j l f : ℕ} → (k : ℕ) → Picks t i (opens (joining t j l f phase.Find h)) k → Deed t i h (got j (Initiate l f phase.Find)) (testing_now (Some k) (joining t j l f phase.Find h)) (onward h j (Initiate l f phase.Find) t.count ++ (one k (Test (joining t j l f phase.Find h).level (joining t j l f phase.Find h).name)))
  Searches-report : {j l f : ℕ} → Nobody t i (opens (joining t j l f phase.Find h)) → (testing_now None (joining t j l f phase.Find h)).find_count ≡ 0 → (testing_now None (joining t j l f phase.Find h)).testing ≡ None → Deed t i h (got j (Initiate l f phase.Find)) (finding (testing_now None (joining t j l f phase.Find h))) (onward h j (Initiate l f phase.Find) t.count ++ (send_to (testing_now None (joining t j l f phase.Find h)).parent (Report (testing_now None (joining t j l f phase.Find h)).best_weight)))
  Searches-wait : {j l f : ℕ} → Nobody t i (opens (joining t j l f phase.Find h)) → (eqb (testing_now None (joining t j l f phase.Find h)).find_count 0 && is_none (testing_now None (joining t j l f phase.Find h)).testing) ≡ false → Deed t i h (got j (Initiate l f phase.Find)) (testing_now None (joining t j l f phase.Find h)) (onward h j (Initiate l f phase.Find) t.count ++ ([]))
  Accepts : {j l f : ℕ} → l ≤ h.level → (f ≡ h.name → ⊥) → Deed t i h (got j (Test l f)) (h) (one j Accept)
  Rejects : {j l f : ℕ} → l ≤ h.level → f ≡ h.name → (h.testing ≡ Some j → ⊥) → Deed t i h (got j (Test l f)) (rejecting j h) (one j Reject)
  Crosses-ask : {j l f : ℕ} → (k : ℕ) → l ≤ h.level → f ≡ h.name → h.testing ≡ Some j → Picks t i (opens (rejecting j h)) k → Deed t i h (got j (Test l f)) (testing_now (Some k) (rejecting j h)) (one k (Test (rejecting j h).level (rejecting j h).name))
  Crosses-report : {j l f : ℕ} → l ≤ h.level → f ≡ h.name → h.testing ≡ Some j → Nobody t i (opens (rejecting j h)) → (testing_now None (rejecting j h)).find_count ≡ 0 → (testing_now None (rejecting j h)).testing ≡ None → Deed t i h (got j (Test l f)) (finding (testing_now None (rejecting j h))) (send_to (testing_now None (rejecting j h)).parent (Report (testing_now None (rejecting j h)).best_weight))
  Crosses-wait : {j l f : ℕ} → l ≤ h.level → f ≡ h.name → h.testing ≡ Some j → Nobody t i (opens (rejecting j h)) → (eqb (testing_now None (rejecting j h)).find_count 0 && is_none (testing_now None (rejecting j h)).testing) ≡ false → Deed t i h (got j (Test l f)) (testing_now None (rejecting j h)) ([])
  Accepted-report : {j : ℕ} → (bettering j (Some (t.weight i j)) (testing_now None h)).find_count ≡ 0 → (bettering j (Some (t.weight i j)) (testing_now None h)).testing ≡ None → Deed t i h (got j Accept) (finding (bettering j (Some (t.weight i j)) (testing_now None h))) (send_to (bettering j (Some (t.weight i j)) (testing_now None h)).parent (Report (bettering j (Some (t.weight i j)) (testing_now None h)).best_weight))
  Accepted-wait : {j : ℕ} → (eqb (bettering j (Some (t.weight i j)) (testing_now None h)).find_count 0 && is_none (bettering j (Some (t.weight i j)) (testing_now None h)).testing) ≡ false → Deed t i h (got j Accept) (bettering j (Some (t.weight i j)) (testing_now None h)) ([])
  Rejected-ask : {j : ℕ} → (k : ℕ) → Picks t i (opens (rejecting j h)) k → Deed t i h (got j Reject) (testing_now (Some k) (rejecting j h)) (one k (Test (rejecting j h).level (rejecting j h).name))
  Rejected-report : {j : ℕ} → Nobody t i (opens (rejecting j h)) → (testing_now None (rejecting j h)).find_count ≡ 0 → (testing_now None (rejecting j h)).testing ≡ None → Deed t i h (got j Reject) (finding (testing_now None (rejecting j h))) (send_to (testing_now None (rejecting j h)).parent (Report (testing_now None (rejecting j h)).best_weight))
  Rejected-wait : {j : ℕ} → Nobody t i (opens (rejecting j h)) → (eqb (testing_now None (rejecting j h)).find_count 0 && is_none (testing_now None (rejecting j h)).testing) ≡ false → Deed t i h (got j Reject) (testing_now None (rejecting j h)) ([])
  Hears-report : {j : ℕ} {w : Option ℕ} → (h.parent ≡ Some j → ⊥) → (bettering j w (hearing h)).find_count ≡ 0 → (bettering j w (hearing h)).testing ≡ None → Deed t i h (got j (Report w)) (finding (bettering j w (hearing h))) (send_to (bettering j w (hearing h)).parent (Report (bettering j w (hearing h)).best_weight))
  Hears-wait : {j : ℕ} {w : Option ℕ} → (h.parent ≡ Some j → ⊥) → (eqb (bettering j w (hearing h)).find_count 0 && is_none (bettering j w (hearing h)).testing) ≡ false → Deed t i h (got j (Report w)) (bettering j w (hearing h)) ([])
  Decides-passes : {j : ℕ} {w : Option ℕ} → (k : ℕ) → h.parent ≡ Some j → (h.status ≡ Find → ⊥) → lighter h.best_weight w ≡ true → h.best ≡ Some k → h.mark k ≡ Branch → Deed t i h (got j (Report w)) (h) (one k Change)
  Decides-joins : {j : ℕ} {w : Option ℕ} → (k : ℕ) → h.parent ≡ Some j → (h.status ≡ Find → ⊥) → lighter h.best_weight w ≡ true → h.best ≡ Some k → (h.mark k ≡ Branch → ⊥) → Deed t i h (got j (Report w)) (marking k Branch h) (one k (Connect h.level))
  Halts : {j : ℕ} {w : Option ℕ} → h.parent ≡ Some j → (h.status ≡ Find → ⊥) → h.best_weight ≡ None → w ≡ None → Deed t i h (got j (Report w)) (halting h) ([])
  Rests : {j : ℕ} {w : Option ℕ} → h.parent ≡ Some j → (h.status ≡ Find → ⊥) → lighter h.best_weight w ≡ false → (is_nothing w && is_nothing h.best_weight) ≡ false → Deed t i h (got j (Report w)) (h) ([])
  Changed-passes : {j : ℕ} → (k : ℕ) → h.best ≡ Some k → h.mark k ≡ Branch → Deed t i h (got j Change) (h) (one k Change)
  Changed-joins : {j : ℕ} → (k : ℕ) → h.best ≡ Some k → (h.mark k ≡ Branch → ⊥) → Deed t i h (got j Change) (marking k Branch h) (one k (Connect h.level))
