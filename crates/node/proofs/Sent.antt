-- What goes over an edge: one message more, and what is passed on over the branches.
use Rattle.std.proofs.Common.{◌≡◌, ℕ, zero, suc, ◌+◌, ◌<◌, ◌≤◌, Bool, true, false, cond, ◌&&◌, eqb, ltb, ◌⊎◌, List, [], ◌∷◌, length, get_or, set, Some, None, refl, ◌∙◌, inl, inr, arith, length-set}
use native.Mathlib.Decide.{dec_lt}
use Rattle.std.proofs.lemmas.List.{get_or-replicate, get_or_past, get_or-set_same}
use Rattle.message.specs.declared.messages.Message.{Message}
use Rattle.node.specs.declared.state.Node.{Node}
use Rattle.node.specs.Rules.{Sends, silent, sending, goes_on, onward, branches_but}
use Rattle.node.specs.Laws.{sent_over}

-- what stands at k after a write at i
pub after_set : {X : Type 0} (l : List X) (i k : ℕ) (a d : X) → (get_or (set l i a) k d ≡ get_or l k d) ⊎ ((k ≡ i) × (i < length l) × (get_or (set l i a) k d ≡ a))
after_set [] i k a d = inl refl
after_set (x ∷ l) zero zero a d = inr (refl, omega arith, refl)
after_set (x ∷ l) zero (suc k) a d = inl refl
after_set (x ∷ l) (suc i) zero a d = inl refl
after_set (x ∷ l) (suc i) (suc k) a d = elim (after_set l i k a d) [ inl e ↦ inl e | inr h ↦ inr (omega (arith, h.0), omega (arith, h.1), h.2) ]

pub silent_over : (k : ℕ) → sent_over silent k ≡ None
silent_over k = elim (dec_lt k 16) [ yes h ↦ get_or-replicate 16 k None None h | no h ↦ get_or_past silent k None (omega arith) ]

-- a message that goes over k is the one more, or went before
pub sent_only : (s : Sends) (j k : ℕ) (m x : Message) → sent_over (sending j m s) k ≡ Some x → ((k ≡ j) × (m ≡ x)) ⊎ (sent_over s k ≡ Some x)
sent_only s j k m x e = let a = after_set s j k (Some m) None in grind arith

pub one_sent : (j k : ℕ) (m x : Message) → sent_over (sending j m silent) k ≡ Some x → (k ≡ j) × (m ≡ x)
one_sent j k m x e = let a = sent_only silent j k m x e in let z = silent_over k in grind arith

pub sent_over_lem : (s : Sends) (j k : ℕ) (m : Message) → j < length s → sent_over (sending j m s) k ≡ cond (eqb k j) (Some m) (sent_over s k)
sent_over_lem s j k m h = let a = after_set s j k (Some m) None in let b = get_or-set_same s j (Some m) None h in grind arith

-- one message and nothing else
pub one_over : (j k : ℕ) (m : Message) → j < 16 → sent_over (sending j m silent) k ≡ cond (eqb k j) (Some m) None
one_over j k m h = let a = sent_over_lem silent j k m h in let z = silent_over k in grind arith

pub sending_length : (j : ℕ) (m : Message) (s : Sends) → length (sending j m s) ≡ length s
sending_length j m s = length-set s j (Some m)

length_more : (b : Bool) (k : ℕ) (m : Message) (s : Sends) → length s ≡ 16 → length (cond b (sending k m s) s) ≡ 16
length_more true k m s h = rw length-set h
length_more false k m s h = h

pub onward_length : (n : Node) (j : ℕ) (m : Message) (b : ℕ) → length (onward n j m b) ≡ 16
unfolding onward
onward_length n j m zero = refl
onward_length n j m (suc b) = length_more (goes_on n j b) b m (onward n j m b) (onward_length n j m b)

onward_more : (on : ℕ → Bool) (m : Message) (s : Sends) (b k : ℕ) → length s ≡ 16 → b < 16 → sent_over s k ≡ cond (ltb k b && on k) (Some m) None →
    sent_over (cond (on b) (sending b m s) s) k ≡ cond (ltb k (suc b) && on k) (Some m) None
onward_more on m s b k l h ih = let a = sent_over_lem s b k m (omega arith) in grind arith

pub onward_below : (n : Node) (j : ℕ) (m : Message) (b k : ℕ) → b ≤ 16 → sent_over (onward n j m b) k ≡ cond (ltb k b && goes_on n j k) (Some m) None
unfolding onward
onward_below n j m zero k h = silent_over k ∙ grind arith
onward_below n j m (suc b) k h = onward_more (goes_on n j) m (onward n j m b) b k (onward_length n j m b) (omega arith) (onward_below n j m b k (omega arith))

-- the message goes on over just the branches but j
pub onward_at : (n : Node) (j : ℕ) (m : Message) (k : ℕ) → sent_over (onward n j m 16) k ≡ cond (goes_on n j k) (Some m) None
onward_at n j m k = onward_below n j m 16 k (omega arith) ∙ grind arith

count_more : (b : Bool) (c k : ℕ) → c ≤ k → cond b (c + 1) c ≤ suc k
count_more true c k h = omega arith
count_more false c k h = omega arith

pub branches_few : (n : Node) (j b : ℕ) → branches_but n j b ≤ b
unfolding branches_but
branches_few n j zero = omega arith
branches_few n j (suc b) = count_more (goes_on n j b) (branches_but n j b) b (branches_few n j b)
