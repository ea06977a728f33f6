-- What the modes of the edges and the questions over them say of answers under way.
use Rattle.std.proofs.Common.{◌≡◌, ℕ, ◌+◌, ◌≤◌, ◌⊎◌, List, [], ◌∷◌, ◌++◌, Some, sym, refl, ap, ◌∙◌, subst, inl, inr, arith}
use Rattle.message.specs.declared.messages.Message.{Message}
use Rattle.message.specs.declared.messages.Message.TheVariants.{Connect, Initiate, Test, Accept, Reject, Report, Change}
use Rattle.graph.specs.declared.mark.Mark.{Mark}
use Rattle.graph.specs.declared.mark.Mark.TheVariants.{Basic, Branch, Rejected}
use Rattle.graph.specs.Graph.{Graph, Edge, Weights}
use Rattle.protocol.proofs.Asleep.{Alones}
use Rattle.protocol.proofs.Base.{Good}
use Rattle.protocol.proofs.Books.{is_answer, answers}
use Rattle.protocol.proofs.Dues.{Asked}
use Rattle.protocol.proofs.Edges.{Edges, turned}
use Rattle.protocol.proofs.Few.{Replies}
use Rattle.protocol.proofs.Frame.{Lifted}
use Rattle.protocol.proofs.Ghost.{Ghost, View, view}
use Rattle.protocol.proofs.Mode.{tells, Mode, free, offered, offers, crossing, took, taken, merged, ahead, behind, core, told, above, below}
use Rattle.protocol.proofs.Purse.{is_reject, rejects}
use Rattle.protocol.proofs.Questions.{Talks}
use Rattle.protocol.proofs.Talk.{still, asks1, replies1, asks, replies, No, Ask, asking, yes', no', Talk, both, crossed, left, mark_is}

-- a queue has as many rejects, and as many answers, as its replies alone
rejects1 : (x : Message) (q : List Message) → rejects (replies1 x ++ q) ≡ is_reject x + rejects q
rejects1 (Connect l) q = omega arith
rejects1 (Initiate l f s) q = omega arith
rejects1 (Test l f) q = omega arith
rejects1 Accept q = omega arith
rejects1 Reject q = omega arith
rejects1 (Report w) q = omega arith
rejects1 Change q = omega arith

rejects_replies : (q : List Message) → rejects (replies q) ≡ rejects q
rejects_replies [] = refl
rejects_replies (x ∷ q) = let ih = rejects_replies q in let e = rejects1 x (replies q) in omega arith

answers1 : (K : Mark) (x : Message) (q : List Message) → answers K (replies1 x ++ q) ≡ is_answer K x + answers K q
answers1 K (Connect l) q = omega arith
answers1 K (Initiate l f s) q = omega arith
answers1 K (Test l f) q = omega arith
answers1 K Accept q = omega arith
answers1 K Reject q = omega arith
answers1 K (Report w) q = omega arith
answers1 K Change q = omega arith

answers_replies : (K : Mark) (q : List Message) → answers K (replies q) ≡ answers K q
answers_replies K [] = refl
answers_replies K (x ∷ q) = let ih = answers_replies K q in let e = answers1 K x (replies q) in omega arith

-- a branch at one end is no rejected edge at the other, and where both have it it leads up from one of them
record Marks (x y : ℕ) (A B : View) : Type 0 where
  pub mine : A.held.mark y ≡ Rejected → B.held.mark x ≡ Branch → ⊥
  pub theirs : B.held.mark x ≡ Rejected → A.held.mark y ≡ Branch → ⊥
  pub up : A.held.mark y ≡ Branch → (A.own.up ≡ Some y) ⊎ (B.own.up ≡ Some x)
  pub inner : A.own.label ≡ B.own.label → A.held.mark y ≡ Basic → B.held.mark x ≡ Branch → ⊥

marks : {x y w : ℕ} {A B : View} {p q : List Message} → Mode x y w A B p q → Marks x y A B
marks (free v) = grind arith
marks (offered v) = grind arith
marks (offers v) = grind arith
marks (crossing v) = grind arith
marks (took v) = grind arith
marks (taken v) = grind arith
marks (merged v) = grind arith
marks (ahead v) = grind arith
marks (behind v) = grind arith
marks (core v) = grind arith
marks (tells v) = grind arith
marks (told v) = grind arith
marks (above v) = grind arith
marks (below v) = grind arith

-- who asks over a branch does not ask upwards
asks_up : {x y : ℕ} {A B : View} {T S : List Message} → Ask x y A B T S → A.held.testing ≡ Some y → A.held.mark y ≡ Branch → A.own.up ≡ Some y → ⊥
asks_up (still v) e b u = v.testing e
asks_up (asking v) e b u = v.up u
asks_up (yes' v) e b u = let z = v.mark in grind arith
asks_up (no' v) e b u = v.up u

-- the head of a queue is a question
ask_test : {x y : ℕ} {A B : View} {T S : List Message} {l f : ℕ} → Ask x y A B (Test l f ∷ T) S → (A.held.testing ≡ Some y) × (A.held.mark y ≡ Rejected → ⊥) × (A.own.up ≡ Some y → ⊥) × ((B.held.mark x ≡ Rejected → ⊥) ⊎ (A.held.mark y ≡ Basic → ⊥))
ask_test (still v) = absurd (let o = v.out in grind arith)
ask_test (asking v) = (v.testing, v.mark, v.up, v.whole)
ask_test (yes' v) = absurd (let o = v.out in grind arith)
ask_test (no' v) = absurd (let o = v.out in grind arith)

head_test : {x y : ℕ} {A B : View} {T S U R : List Message} {l f : ℕ} → Marks x y A B → Talk x y A B T S (Test l f ∷ U) R → (A.held.mark y ≡ Rejected → ⊥) × (A.held.testing ≡ Some y → A.held.mark y ≡ Basic)
head_test {x} {y} {A} {B} k (both a b) = (safe, basic)
  where
    d : (B.held.testing ≡ Some x) × (B.held.mark x ≡ Rejected → ⊥) × (B.own.up ≡ Some x → ⊥) × ((A.held.mark y ≡ Rejected → ⊥) ⊎ (B.held.mark x ≡ Basic → ⊥))
    d = ask_test b

    safe : A.held.mark y ≡ Rejected → ⊥
    safe e = elim d.3 [ inl f ↦ f e | inr f ↦ d.1 (mark_other f) ]
      where
        mark_other : (B.held.mark x ≡ Basic → ⊥) → B.held.mark x ≡ Rejected
        mark_other f = let z = k.mine e in grind arith

    basic : A.held.testing ≡ Some y → A.held.mark y ≡ Basic
    basic e = mark_is (A.held.mark y) (λ u. elim (k.up u) [ inl v ↦ asks_up a e u v | inr v ↦ d.2 v ]) safe
head_test k (crossed v) = let m = v.mark_a in (λ e. grind arith, λ e. m)
head_test k (left v) = absurd (let o = v.out in grind arith)

-- it is a yes
ask_yes : {x y : ℕ} {A B : View} {T S : List Message} → Ask x y A B T (Accept ∷ S) → A.held.testing ≡ Some y
ask_yes (still v) = absurd (let o = v.back in grind arith)
ask_yes (asking v) = absurd (let o = v.back in grind arith)
ask_yes (yes' v) = v.testing
ask_yes (no' v) = v.testing

head_yes : {x y : ℕ} {A B : View} {T S U R : List Message} → Talk x y A B T (Accept ∷ S) U R → A.held.testing ≡ Some y
head_yes (both a b) = ask_yes a
head_yes (crossed v) = v.testing
head_yes (left v) = absurd (let o = v.said in grind arith)

-- it is a no
no_of : {x y : ℕ} {A B : View} {T S : List Message} → Ask x y A B T (Reject ∷ S) → No x y A B T (Reject ∷ S)
no_of (still v) = absurd (let o = v.back in grind arith)
no_of (asking v) = absurd (let o = v.back in grind arith)
no_of (yes' v) = absurd (let o = v.back in grind arith)
no_of (no' v) = v

head_no : {x y : ℕ} {A B : View} {T S U R : List Message} → Talk x y A B T (Reject ∷ S) U R → No x y A B T (Reject ∷ S) × Ask y x B A U R
head_no (both a b) = (no_of a, b)
head_no (crossed v) = absurd (let o = v.back in grind arith)
head_no (left v) = absurd (let o = v.said in grind arith)

-- both ends of an edge that a no comes over
no_marks : {x y : ℕ} {A B : View} {T S : List Message} → Marks x y A B → No x y A B T S → ((A.held.mark y ≡ Basic) × (B.held.mark x ≡ Rejected)) ⊎ ((A.held.mark y ≡ Branch) × (B.held.mark x ≡ Branch))
no_marks {x} {y} {A} {B} k v = by (A.held.mark y) (B.held.mark x) v.mark v.theirs (k.inner v.same) k.theirs
  where
    by : (a b : Mark) → (a ≡ Rejected → ⊥) → (b ≡ Basic → ⊥) → (a ≡ Basic → b ≡ Branch → ⊥) → (b ≡ Rejected → a ≡ Branch → ⊥) → ((a ≡ Basic) × (b ≡ Rejected)) ⊎ ((a ≡ Branch) × (b ≡ Branch))
    by a b f g h k = grind arith

-- over a branch, who says no does not ask back
no_back : {x y : ℕ} {A B : View} {T S U R : List Message} → Marks x y A B → Talk x y A B T (Reject ∷ S) U R → A.held.mark y ≡ Branch → B.held.testing ≡ Some x → ⊥
no_back k w e u = let h = head_no w in elim (no_marks k h.0) [
  | inl m ↦ grind arith
  | inr m ↦ elim (k.up e) [ inl v ↦ h.0.up v | inr v ↦ asks_up h.1 u m.1 v ]
]

-- at most one answer is under way, and none where nobody asks; over an edge that is basic here no reject leaves
ask_one : {x y : ℕ} {A B : View} {T S : List Message} (K : Mark) → Ask x y A B T S → answers K S ≤ 1
ask_one K (still v) = rw v.back (omega arith)
ask_one K (asking v) = rw v.back (omega arith)
ask_one K (yes' v) = rw v.back (omega arith)
ask_one K (no' v) = rw v.back (grind arith)

one_answer : {x y : ℕ} {A B : View} {T S U R : List Message} (K : Mark) → Talk x y A B T S U R → answers K S ≤ 1
one_answer K (both a b) = ask_one K a
one_answer K (crossed v) = rw v.back (omega arith)
one_answer K (left v) = rw v.said (omega arith)

ask_none : {x y : ℕ} {A B : View} {T S : List Message} (K : Mark) → (A.held.testing ≡ Some y → ⊥) → Ask x y A B T S → answers K S ≡ 0
ask_none K f (still v) = rw v.back
ask_none K f (asking v) = absurd (f v.testing)
ask_none K f (yes' v) = absurd (f v.testing)
ask_none K f (no' v) = absurd (f v.testing)

no_answer : {x y : ℕ} {A B : View} {T S U R : List Message} (K : Mark) → (A.held.testing ≡ Some y → ⊥) → Talk x y A B T S U R → answers K S ≡ 0
no_answer K f (both a b) = ask_none K f a
no_answer K f (crossed v) = absurd (f v.testing)
no_answer K f (left v) = rw v.said

ask_clean : {x y : ℕ} {A B : View} {T S : List Message} → B.held.mark x ≡ Basic → Ask x y A B T S → rejects S ≡ 0
ask_clean e (still v) = rw v.back
ask_clean e (asking v) = rw v.back
ask_clean e (yes' v) = rw v.back
ask_clean e (no' v) = absurd (v.theirs e)

no_reject : {x y : ℕ} {A B : View} {T S U R : List Message} → B.held.mark x ≡ Basic → Talk x y A B T S U R → rejects S ≡ 0
no_reject e (both a b) = ask_clean e a
no_reject e (crossed v) = rw v.back
no_reject e (left v) = rw v.said

module _ (t : Graph) (weights : Weights t) (n : Lifted) (γ : Ghost) (G : Good t n) (E : Edges t n γ) (W : Talks t n γ) where
  -- a message at the head comes over an edge
  over : (i j : ℕ) (x : Message) (rest : List Message) → n.way j i ≡ x ∷ rest → Edge t i j
  over i j x rest e = turned t weights j i (G.queues j i x (rw e (inl refl)))

  talk_head : (i j : ℕ) (x : Message) (rest : List Message) → n.way j i ≡ x ∷ rest → Talk i j (view n γ i) (view n γ j) (asks (n.way i j)) (replies1 x ++ replies rest) (asks1 x ++ asks rest) (replies (n.way i j))
  talk_head i j x rest e = subst (λ q. Talk i j (view n γ i) (view n γ j) (asks (n.way i j)) (replies q) (asks q) (replies (n.way i j))) e (W i j (over i j x rest e))

  head_of : (i j : ℕ) (x : Message) (rest : List Message) → n.way j i ≡ x ∷ rest → Asked j x ((n.held j).mark i) (n.held i)
  head_of i j (Connect l) rest e = tt
  head_of i j (Initiate l f s) rest e = tt
  head_of i j (Test l f) rest e = head_test (marks (E i j (over i j (Test l f) rest e))) (talk_head i j (Test l f) rest e)
  head_of i j Accept rest e = head_yes (talk_head i j Accept rest e)
  head_of i j Reject rest e = let v = head_no (talk_head i j Reject rest e) in (v.0.testing, no_marks (marks (E i j (over i j Reject rest e))) v.0)
  head_of i j (Report w) rest e = tt
  head_of i j Change rest e = tt

  back_of : (i j : ℕ) (rest : List Message) → n.way j i ≡ Reject ∷ rest → (n.held i).mark j ≡ Branch → (n.held j).testing ≡ Some i → ⊥
  back_of i j rest e = let l = over i j Reject rest e in no_back (marks (E i j l)) (talk_head i j Reject rest e)

  -- THE THEOREM: what the message bound needs of the answers follows from the modes, the questions, and that who sleeps is as it was made
  pub replies_of : Alones t n γ → Replies t n γ
  replies_of S = record {
    head = head_of;
    back = back_of;
    refuses = λ i k l e. sym (rejects_replies (n.way i k)) ∙ no_reject e (W k i (turned t weights i k l));
    asked = λ a b l e. subst (λ v. v ≤ 1) (answers_replies ((n.held b).mark a) (n.way b a)) (one_answer ((n.held b).mark a) (W a b (turned t weights b a l)));
    unasked = λ a b l f. sym (answers_replies ((n.held b).mark a) (n.way b a)) ∙ no_answer ((n.held b).mark a) f (W a b (turned t weights b a l));
    sleeps = λ i u. ap (λ v. v.own.changed) (S.sleepers i u).made;
  }
