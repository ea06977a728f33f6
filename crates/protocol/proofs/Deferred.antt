-- Which messages an awake node defers, by its places and by its neighbours.
use Rattle.std.proofs.Common.{◌≡◌, ℕ, ◌+◌, ◌<◌, ◌≤◌, Bool, true, false, cond, ◌&&◌, eqb, ltb, leb, List, length, get_or, refl, ◌∙◌, subst, arith}
use Rattle.message.specs.declared.messages.Message.{Message}
use Rattle.message.specs.declared.messages.Message.TheVariants.{Connect, Initiate, Test, Accept, Reject, Report, Change}
use Rattle.message.specs.declared.refusals.Refusal.{Refusal}
use Rattle.message.specs.Bytes.{fits}
use Rattle.node.specs.declared.state.Status.{Status}
use Rattle.node.specs.declared.state.Status.TheVariants.{Sleeping, Find, Found}
use Rattle.graph.specs.declared.mark.Mark.{Mark}
use Rattle.graph.specs.declared.mark.Mark.TheVariants.{Basic, Branch, Rejected}
use Rattle.node.specs.declared.state.Node.{Node}
use Rattle.node.specs.declared.state.Best.{Best}
use Rattle.node.specs.declared.state.Turn.{Turn}
use Rattle.node.specs.declared.state.Taking.{Taking}
use Rattle.node.specs.declared.state.Taking.TheVariants.{Taken, Deferred, Refused}
use Rattle.node.specs.Rules.{is_basic, is_sleeping, is_find, lighter, is_edge, has_edge, mark_of}
use Rattle.graph.specs.Graph.{Graph}
use Rattle.protocol.proofs.Done.{yes_edge}
use Rattle.protocol.proofs.Frame.{Later}
use Rattle.protocol.proofs.Lift.{held_of}
use Rattle.protocol.proofs.Shape.{Shape, inside_of, marked}
use Rattle.node.specs.Rules as rules
use Rattle.message.specs.declared.messages.Phase.TheVariants as phase
use Rattle.node.specs.declared.state.Best.TheVariants as best

-- what makes a node defer
abbrev Defers : ℕ → Message → Node → Type 0
Defers j (Connect l) n = (is_basic (mark_of n j) ≡ true) × (n.level ≤ l)
Defers j (Initiate l f p) n = ⊥
Defers j (Test l f) n = n.level < l
Defers j Accept n = ⊥
Defers j Reject n = ⊥
Defers j (Report w) n = (is_edge n.parent j ≡ true) × (is_find n.status ≡ true)
Defers j Change n = ⊥

data Put (P : Type 0) : Taking → Type 0 where
  puts : {n : Node} → P → Put P (Deferred n)
  takes' : {t : Turn} → Put P (Taken t)
  refuses : {n : Node} {r : Refusal} → Put P (Refused n r)

get : {P : Type 0} {n : Node} → Put P (Deferred n) → P
get (puts p) = p

put_cond : {P : Type 0} (b : Bool) {x y : Taking} → (b ≡ true → Put P x) → (b ≡ false → Put P y) → Put P (cond b x y)
put_cond true f g = f refl
put_cond false f g = g refl

put_changes : {P : Type 0} (b : Best) (n : Node) → Put P (rules.changes_by b n)
put_changes best.Nothing n = refuses
put_changes (best.Over k v) n = takes'

put_awake : (j : ℕ) (m : Message) (n : Node) → Put (Defers j m n) (rules.takes_awake j m n)
put_awake j (Connect l) n =
    put_cond (ltb l n.level) (λ a. put_cond (is_find n.status && eqb n.find_count 255) (λ b. refuses) (λ b. takes'))
    (λ a. put_cond (is_basic (mark_of n j)) (λ b. puts (b, grind arith)) (λ b. put_cond (leb 8 n.level) (λ c. refuses) (λ c. takes')))
put_awake j (Initiate l f phase.Find) n = put_cond (ltb 255 (n.find_count + rules.branches_but n j 16)) (λ a. refuses) (λ a. takes')
put_awake j (Initiate l f phase.Found) n = takes'
put_awake j (Test l f) n =
    put_cond (ltb n.level l) (λ a. puts (grind arith)) (λ a. put_cond (eqb f n.name) (λ b. put_cond (is_edge n.testing j) (λ c. takes') (λ c. takes')) (λ b. takes'))
put_awake j Accept n = put_cond (is_edge n.testing j) (λ a. takes') (λ a. refuses)
put_awake j Reject n = put_cond (is_edge n.testing j) (λ a. takes') (λ a. refuses)
put_awake j (Report w) n =
    put_cond (is_edge n.parent j) (λ a. put_cond (is_find n.status) (λ b. puts (a, b)) (λ b. put_cond (lighter (rules.best_weight n.best) w) (λ c. put_changes n.best n) (λ c. takes'))) (λ a. takes')
put_awake j Change n = put_changes n.best n

put_takes : (j : ℕ) (m : Message) (n : Node) → is_sleeping n.status ≡ false → Put ((has_edge n j ≡ true) × Defers j m n) (rules.takes j m n)
put_takes j m n a =
    put_cond (has_edge n j) (λ e. put_cond (fits m) (λ f. put_cond (is_sleeping n.status) (λ c. absurd (grind arith)) (λ c. with' e (put_awake j m n))) (λ f. refuses)) (λ e. refuses)
  where
    with' : has_edge n j ≡ true → {x : Taking} → Put (Defers j m n) x → Put ((has_edge n j ≡ true) × Defers j m n) x
    with' e (puts p) = puts (e, p)
    with' e takes' = takes'
    with' e refuses = refuses

module _ (g : Graph) (i : ℕ) (near : List ℕ) (n : Node) (s : Shape g i near n) (inside : i < g.count) where
  basic_is : (d : Mark) → is_basic d ≡ true → d ≡ Basic
  basic_is Basic e = refl
  basic_is Branch e = absurd (grind arith)
  basic_is Rejected e = absurd (grind arith)

  find_is : (d : Status) → is_find d ≡ true → d ≡ Find
  find_is Sleeping e = absurd (grind arith)
  find_is Find e = refl
  find_is Found e = absurd (grind arith)

  by_neighbour : (j : ℕ) (m : Message) → j < length near → Defers j m n → Later (get_or near j 0) m (held_of near n)
  by_neighbour j (Connect l) p d = (marked g i near n s j p ∙ basic_is (mark_of n j) d.0, d.1)
  by_neighbour j (Initiate l f x) p d = d
  by_neighbour j (Test l f) p d = d
  by_neighbour j Accept p d = d
  by_neighbour j Reject p d = d
  by_neighbour j (Report w) p d = (yes_edge g i near n s inside n.parent j d.0, let z = find_is n.status d.1 in grind arith)
  by_neighbour j Change p d = d

  pub later : (j : ℕ) (m : Message) → is_sleeping n.status ≡ false → rules.takes j m n ≡ Deferred n → Later (get_or near j 0) m (held_of near n)
  later j m a e = let q = get (subst (Put ((has_edge n j ≡ true) × Defers j m n)) e (put_takes j m n a)) in by_neighbour j m (inside_of g i near n s j q.0) q.1
