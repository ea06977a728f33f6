-- No message at the head of a queue is refused, in a graph of at most 256 nodes.
use Rattle.std.proofs.Common.{◌≡◌, ℕ, zero, suc, ◌+◌, ◌<◌, ◌≤◌, Bool, true, false, cond, ◌⊎◌, List, ◌∷◌, length, get_or, Some, sym, refl, ap, ◌∙◌, subst, inl, inr, arith, pow_mono, None}
use Rattle.message.specs.declared.messages.Message.{Message}
use Rattle.message.specs.declared.messages.Message.TheVariants.{Connect, Initiate, Test, Accept, Reject, Report, Change}
use Rattle.message.specs.declared.refusals.Refusal.{Refusal}
use Rattle.message.specs.Bytes.{fits}
use Rattle.node.specs.declared.state.Status.{Status}
use Rattle.node.specs.declared.state.Status.TheVariants.{Sleeping, Find, Found}
use Rattle.graph.specs.declared.mark.Mark.{Mark}
use Rattle.graph.specs.declared.mark.Mark.TheVariants.{Basic}
use Rattle.node.specs.declared.state.Node.{Node}
use Rattle.node.specs.declared.state.Taking.TheVariants.{Refused}
use Rattle.node.specs.declared.state.Best.{Best}
use Rattle.node.specs.Rules.{is_basic, is_sleeping, is_edge, has_edge, mark_of, best_weight, takes, takes_awake, changes_by, branches_but as branchesOf}
use Rattle.graph.specs.Graph.{Graph, Edge}
use Rattle.protocol.proofs.Asked.{Asked, talk_asked}
use Rattle.protocol.proofs.Talk.{Talk, asks, replies}
use Rattle.protocol.proofs.Queues.{Has}
use Rattle.protocol.proofs.Reaches.{reached}
use Rattle.protocol.proofs.Sounds.{sounds}
use Rattle.protocol.proofs.Awaits.{awaits_basic}
use Rattle.protocol.proofs.Control.{control}
use Rattle.protocol.proofs.Events.{lift}
use Rattle.protocol.proofs.FindCount.{awaited}
use Rattle.protocol.proofs.Frame.{Lifted}
use Rattle.protocol.proofs.Ghost.{Ghost, View, view}
use Rattle.protocol.proofs.Heads.{Merging, head_change}
use Rattle.protocol.proofs.Invariant.{Inv}
use Rattle.protocol.proofs.Lift.{held_of}
use Rattle.protocol.proofs.Mode.{tells, Mode, free, offered, offers, crossing, took, taken, merged, ahead, behind, core, told, above, below}
use Rattle.protocol.proofs.Reindex.{reindex}
use Rattle.protocol.proofs.Shape.{Shape, few, there, marked, is_place, mark_none}
use Rattle.protocol.proofs.Sizes.{is, size, Sizes, at_most, level_bound}
use Rattle.protocol.proofs.Sum.{sum, sum_add}
use Rattle.protocol.proofs.Wait.{count}
use Rattle.message.specs.declared.messages.Phase.TheVariants as phase
use Rattle.node.specs.declared.state.Best.TheVariants as best
use Rattle.node.proofs.Sent.{branches_few}
use Rattle.protocol.specs.Net.{Net, Near, neighbour}
use Rattle.protocol.specs.Theorems.{NoStray}

-- why an awake node refuses a message that fits
abbrev Stray : ℕ → Message → Node → Type 0
Stray k (Connect l) n = (255 ≤ n.find_count) ⊎ ((n.level ≤ l) × (is_basic (mark_of n k) ≡ false) × (8 ≤ n.level))
Stray k (Initiate l f p) n = 255 < n.find_count + branchesOf n k 16
Stray k (Test l f) n = ⊥
Stray k Accept n = is_edge n.testing k ≡ false
Stray k Reject n = is_edge n.testing k ≡ false
Stray k (Report w) n = ⊥
Stray k Change n = best_weight n.best ≡ None

-- a change is refused only without a best edge
no_change : (b : Best) (n o : Node) (r : Refusal) → changes_by b n ≡ Refused o r → best_weight b ≡ None
no_change best.Nothing n o r e = refl
no_change (best.Over j w) n o r e = absurd (grind arith)

refuses : (k : ℕ) (m : Message) (n o : Node) (r : Refusal) → takes_awake k m n ≡ Refused o r → Stray k m n
refuses k (Connect l) n o r e = grind arith
refuses k (Initiate l f phase.Find) n o r e = grind arith
refuses k (Initiate l f phase.Found) n o r e = absurd (grind arith)
refuses k (Test l f) n o r e = grind arith
refuses k Accept n o r e = grind arith
refuses k Reject n o r e = grind arith
refuses k (Report w) n o r e = let z = no_change n.best n o r in grind arith
refuses k Change n o r e = no_change n.best n o r e

-- one that has such an edge, whether it sleeps or not
refused : (k : ℕ) (m : Message) (n o : Node) (r : Refusal) → has_edge n k ≡ true → fits m ≡ true → takes k m n ≡ Refused o r → Stray k m n
refused k m n o r a b e = awake (is_sleeping n.status) refl
  where
    awake : (s : Bool) → is_sleeping n.status ≡ s → Stray k m n
    awake true u = absurd (grind arith)
    awake false u = refuses k m n o r (grind arith)

-- counting is summing
count_sum : (f : ℕ → Bool) (c : ℕ) → count f c ≡ sum (λ y. cond (f y) 1 0) c
unfolding count sum
count_sum f zero = refl
count_sum f (suc c) = let ih = count_sum f c in omega arith

pub one_most : (b : Bool) → ◌≤◌ (cond b 1 0) 1
one_most true = omega arith
one_most false = omega arith

-- a node waits for no more than it has places
module _ (g : Graph) (near : Near) (n : Net) (γ : Ghost) (I : Inv g (lift near n) γ) (i : ℕ) (s : Shape g i (near i) (n.node i)) where
  awaited_few : count (awaited (lift near n) i) g.count ≤ 16
  awaited_few =
      let c = count_sum (awaited (lift near n) i) g.count in
      let r = reindex (near i) (λ y. cond (awaited (lift near n) i y) 1 0) g.count s.once (λ k l. (s.real k l).1) nobody in
      let m = at_most (λ l. cond (awaited (lift near n) i (get_or (near i) l 0)) 1 0) (length (near i)) (λ l. one_most (awaited (lift near n) i (get_or (near i) l 0))) in
      let f = few g i (near i) (n.node i) s in
      omega arith
    where
      nobody : (b : ℕ) → ((k : ℕ) → k < length (near i) → get_or (near i) k 0 ≡ b → ⊥) → ◌≡◌ {A = ℕ} (cond (awaited (lift near n) i b) 1 0) 0
      nobody b z = let e = awaits_basic b (held_of (near i) (n.node i)) (n.node b).status (control (n.way i b)) (control (n.way b i)) (mark_none (near i) (n.node i).marks b z) in rw e

  -- so its find count has room
  pub count_few : (n.node i).find_count ≤ 16
  count_few = go (n.node i).status refl
    where
      calm : ((n.node i).status ≡ Find → ⊥) → (n.node i).find_count ≤ 16
      calm d = let z = I.counts.calm i d in omega arith

      go : (s : Status) → (n.node i).status ≡ s → (n.node i).find_count ≤ 16
      go Sleeping u = calm (λ z. grind arith)
      go Find u = let z = I.counts.counts i u in let y = awaited_few in omega arith
      go Found u = calm (λ z. grind arith)

-- a connect is about to merge two fragments, or they have merged and are a level higher
head_level : {x y w : ℕ} {A B : View} {p q : List Message} {l : ℕ} → A.held.level ≤ l → (A.held.mark y ≡ Basic → ⊥) → Mode x y w A B p (Connect l ∷ q) → Merging x y w A B ⊎ (B.fragment.level ≡ suc A.held.level)
head_level c d (free v) = absurd (grind arith)
head_level c d (offered v) = absurd (grind arith)
head_level c d (offers v) = absurd (grind arith)
head_level c d (crossing v) = inl (grind arith)
head_level c d (took v) = absurd (grind arith)
head_level c d (taken v) = inr (v.stale ∙ ap suc v.levels)
head_level c d (merged v) = absurd (grind arith)
head_level c d (ahead v) = absurd (grind arith)
head_level c d (behind v) = absurd (grind arith)
head_level c d (core v) = absurd (grind arith)
head_level c d (tells v) = absurd (grind arith)
head_level c d (told v) = absurd (grind arith)
head_level c d (above v) = absurd (grind arith)
head_level c d (below v) = absurd (grind arith)

-- two fragments have no node in common
two_sizes : (g : Graph) (γ : Ghost) (a b : ℕ) → (a ≡ b → ⊥) → size g γ a + size g γ b ≤ g.count
two_sizes g γ a b d =
    let s = sum_add (λ x. is a (γ.own x).label) (λ x. is b (γ.own x).label) g.count in
    let m = at_most (λ x. is a (γ.own x).label + is b (γ.own x).label) g.count (λ x. apart_most (γ.own x).label) in
    omega arith
  where
    apart_most : (x : ℕ) → is a x + is b x ≤ 1
    apart_most x = grind arith

module _ (g : Graph) (γ : Ghost) (S : Sizes g γ) (small : g.count ≤ 256) where
  -- two fragments of level 8 that merge would have 512 nodes
  merge_low : (n : Lifted) (i j w : ℕ) → i < g.count → j < g.count → Merging i j w (view n γ i) (view n γ j) → 8 ≤ (n.held i).level → ⊥
  merge_low n i j w li lj m h =
      let two = two_sizes g γ (γ.own i).label (γ.own j).label m.differ in
      let a : 8 ≤ (γ.fragment (γ.own i).label).level = subst (λ v. 8 ≤ v) m.current_a h in
      let b : 8 ≤ (γ.fragment (γ.own j).label).level = subst (λ v. 8 ≤ v) (sym m.levels ∙ m.current) h in
      let pa = pow_mono a in
      let pb = pow_mono b in
      let sa = S i li in
      let sb = S j lj in
      omega arith

  -- and so would one of level 9
  merged_low : (n : Lifted) (i j : ℕ) → j < g.count → (γ.fragment (γ.own j).label).level ≡ suc (n.held i).level → 8 ≤ (n.held i).level → ⊥
  merged_low n i j lj e h = let z = level_bound g γ S 8 (omega arith) j lj in omega arith

itself : (j : ℕ) → is_edge (Some j) j ≡ false → ⊥
itself j e = grind arith

basic_is : (m : Mark) → is_basic m ≡ false → m ≡ Basic → ⊥
basic_is m f e = grind arith

-- at node i, whose place k leads to j
module _ (g : Graph) (near : Near) (small : g.count ≤ 256) (n : Net) (γ : Ghost) (I : Inv g (lift near n) γ) (i : ℕ) (s : Shape g i (near i) (n.node i)) (k : ℕ) (l : k < length (near i)) where
  abbrev j : ℕ
  j = neighbour near i k

  edge : Edge g i j
  edge = s.real k l

  -- who is answered asks
  asked_here : ((lift near n).held i).testing ≡ Some j → is_edge (n.node i).testing k ≡ false → ⊥
  asked_here e f =
      let p = is_place g i (near i) (n.node i) s (n.node i).testing k s.within.testing_there l in
      itself j (subst (λ v. is_edge v j ≡ false) e (sym p ∙ f))

  -- what an answer at the head says of node i
  replied : (m : Message) (rest : List Message) → n.way j i ≡ m ∷ rest → Asked j m ((lift near n).held i)
  replied m rest q =
      talk_asked (replies rest) m (subst (λ v. Talk i j (view (lift near n) γ i) (view (lift near n) γ j) (asks (n.way i j)) (replies v) (asks (n.way j i)) (replies (n.way i j))) q (I.talks i j edge))

  -- how both ends stand, by the message at the head
  headed : (m : Message) (rest : List Message) → n.way j i ≡ m ∷ rest → Mode i j (g.weight i j) (view (lift near n) γ i) (view (lift near n) γ j) (control (n.way i j)) (control (m ∷ rest))
  headed m rest q = subst (λ v. Mode i j (g.weight i j) (view (lift near n) γ i) (view (lift near n) γ j) (control (n.way i j)) (control v)) q (I.edges i j edge)

  unmarked : is_basic (mark_of (n.node i) k) ≡ false → ((lift near n).held i).mark j ≡ Basic → ⊥
  unmarked f e = let z = marked g i (near i) (n.node i) s k l in basic_is (mark_of (n.node i) k) f (sym z ∙ e)

  -- no reason to refuse it holds
  none_strays : (m : Message) (rest : List Message) → n.way j i ≡ m ∷ rest → Stray k m (n.node i) → ⊥
  none_strays (Connect c) rest q (inl u) = let z = count_few g near n γ I i s in omega arith
  none_strays (Connect c) rest q (inr (a, b, d)) = elim (head_level a (unmarked b) (headed (Connect c) rest q)) [
    | inl v ↦ merge_low g γ I.sizes small (lift near n) i j (g.weight i j) edge.0 edge.1 v d
    | inr v ↦ merged_low g γ I.sizes small (lift near n) i j edge.1 v d
  ]
  none_strays (Initiate c f p) rest q u = let z = count_few g near n γ I i s in let y = branches_few (n.node i) k 16 in omega arith
  none_strays (Test c f) rest q u = u
  none_strays Accept rest q u = asked_here (replied Accept rest q) u
  none_strays Reject rest q u = asked_here (replied Reject rest q) u
  none_strays (Report w) rest q u = u
  none_strays Change rest q u = (head_change (λ e. ap γ.fragment e) (headed Change rest q)).finite u

-- no message is ever refused
pub no_stray : NoStray
no_stray g w small near p n r i k m rest o e lt l q z =
    let b = reached g w near p n r in
    let s = b.shaped i lt in
    let f = (sounds g near p n r).fit (neighbour near i k) i m (subst (λ v. Has v m) (sym q) (inl refl)) in
    none_strays g near small n b.ghost b.inv i s k l m rest q (refused k m (n.node i) o e (there g i (near i) (n.node i) s k l) f z)
