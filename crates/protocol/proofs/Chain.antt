-- Words to begin: one more, one less, and what they say of the levels.
use Rattle.std.proofs.Common.{◌≡◌, ℕ, ◌<◌, ◌≤◌, Bool, true, false, ◌||◌, ◌⊎◌, List, [], ◌∷◌, ◌++◌, refl, inl, inr, arith}
use Rattle.message.specs.declared.messages.Message.{Message}
use Rattle.message.specs.declared.messages.Message.TheVariants.{Connect, Initiate, Test, Accept, Reject, Report, Change}
use Rattle.message.specs.declared.messages.Phase.{Phase}
use Rattle.node.specs.declared.state.Status.{Status}
use Rattle.node.specs.declared.state.Status.TheVariants.{Find, Found}
use Rattle.node.specs.Rules.{is_finding}
use Rattle.protocol.proofs.Held.{Held}
use Rattle.protocol.proofs.Mode.{busy, calls, Chain, Down}
use Rattle.message.specs.declared.messages.Phase.TheVariants as phase

pub bool : (b : Bool) → (b ≡ true) ⊎ (b ≡ false)
bool true = inl refl
bool false = inr refl

pub busy_more : (p : List Message) (l f : ℕ) (s : Phase) → busy (p ++ (Initiate l f s ∷ [])) ≡ true
busy_more [] l f s = refl
busy_more (Connect k ∷ p) l f s = busy_more p l f s
busy_more (Initiate k n z ∷ p) l f s = refl
busy_more (Test k n ∷ p) l f s = busy_more p l f s
busy_more (Accept ∷ p) l f s = busy_more p l f s
busy_more (Reject ∷ p) l f s = busy_more p l f s
busy_more (Report r ∷ p) l f s = busy_more p l f s
busy_more (Change ∷ p) l f s = busy_more p l f s

pub calls_more : (p : List Message) (l f : ℕ) (s : Phase) → calls (p ++ (Initiate l f s ∷ [])) ≡ calls p || is_finding s
calls_more [] l f s = grind arith
calls_more (Connect k ∷ p) l f s = let ih = calls_more p l f s in grind arith
calls_more (Initiate k n z ∷ p) l f s = let ih = calls_more p l f s in grind arith
calls_more (Test k n ∷ p) l f s = let ih = calls_more p l f s in grind arith
calls_more (Accept ∷ p) l f s = let ih = calls_more p l f s in grind arith
calls_more (Reject ∷ p) l f s = let ih = calls_more p l f s in grind arith
calls_more (Report r ∷ p) l f s = let ih = calls_more p l f s in grind arith
calls_more (Change ∷ p) l f s = let ih = calls_more p l f s in grind arith

-- the levels only rise, and if nothing is under way the two are alike
pub chain_low : (L F : ℕ) (S : Status) (l f : ℕ) (p : List Message) → Chain L F S l f p → (l ≤ L) × (busy p ≡ true → l < L) × (busy p ≡ false → (p ≡ []) × (l ≡ L) × (f ≡ F))
chain_low L F S l f [] c = grind arith
chain_low L F S l f (Connect k ∷ p) c = absurd c
chain_low L F S l f (Test k n ∷ p) c = absurd c
chain_low L F S l f (Accept ∷ p) c = absurd c
chain_low L F S l f (Reject ∷ p) c = absurd c
chain_low L F S l f (Report r ∷ p) c = absurd c
chain_low L F S l f (Change ∷ p) c = absurd c
chain_low L F S l f (Initiate k n s ∷ p) c = let ih = chain_low L F S k n p c.2 in grind arith

-- if A does not seek, nobody is asked to seek
pub chain_calm : (L F : ℕ) (S : Status) (l f : ℕ) (p : List Message) → Chain L F S l f p → (S ≡ Find → ⊥) → calls p ≡ false
chain_calm L F S l f [] c d = refl
chain_calm L F S l f (Connect k ∷ p) c d = absurd c
chain_calm L F S l f (Test k n ∷ p) c d = absurd c
chain_calm L F S l f (Accept ∷ p) c d = absurd c
chain_calm L F S l f (Reject ∷ p) c d = absurd c
chain_calm L F S l f (Report r ∷ p) c d = absurd c
chain_calm L F S l f (Change ∷ p) c d = absurd c
chain_calm L F S l f (Initiate k n s ∷ p) c d = let ih = chain_calm L F S k n p c.2 d in grind arith

-- if nobody is asked to seek, A's state does not matter
pub chain_state : (L F : ℕ) (S : Status) (L' F' : ℕ) (S' : Status) (l f : ℕ) (p : List Message) → L' ≡ L → F' ≡ F → Chain L F S l f p → (calls p ≡ false) ⊎ (S' ≡ S) → Chain L' F' S' l f p
chain_state L F S L' F' S' l f [] a b c d = grind arith
chain_state L F S L' F' S' l f (Connect k ∷ p) a b c d = absurd c
chain_state L F S L' F' S' l f (Test k n ∷ p) a b c d = absurd c
chain_state L F S L' F' S' l f (Accept ∷ p) a b c d = absurd c
chain_state L F S L' F' S' l f (Reject ∷ p) a b c d = absurd c
chain_state L F S L' F' S' l f (Report r ∷ p) a b c d = absurd c
chain_state L F S L' F' S' l f (Change ∷ p) a b c d = absurd c
chain_state L F S L' F' S' l f (Initiate k n s ∷ p) a b c d = (c.0, grind arith, chain_state L F S L' F' S' k n p a b c.2 (grind arith))

-- one more
pub chain_more : (L F : ℕ) (S : Status) (L' F' : ℕ) (S' : Status) (s : Phase) (l f : ℕ) (p : List Message) → Chain L F S l f p → calls p ≡ false → L < L' → (s ≡ phase.Find → S' ≡ Find) → Chain L' F' S' l f (p ++ (Initiate L' F' s ∷ []))
chain_more L F S L' F' S' s l f [] c d e b = (grind arith, λ z. (refl, b z), (refl, refl))
chain_more L F S L' F' S' s l f (Connect k ∷ p) c d e b = absurd c
chain_more L F S L' F' S' s l f (Test k n ∷ p) c d e b = absurd c
chain_more L F S L' F' S' s l f (Accept ∷ p) c d e b = absurd c
chain_more L F S L' F' S' s l f (Reject ∷ p) c d e b = absurd c
chain_more L F S L' F' S' s l f (Report r ∷ p) c d e b = absurd c
chain_more L F S L' F' S' s l f (Change ∷ p) c d e b = absurd c
chain_more L F S L' F' S' s l f (Initiate k n z ∷ p) c d e b = (c.0, grind arith, chain_more L F S L' F' S' s k n p c.2 (grind arith) e b)

abbrev pub Levels : ℕ → ℕ → Held → Bool → List Message → Type 0
Levels L F h e p = (h.level ≤ L) × (busy p ≡ true → h.level < L) × (busy p ≡ false → (h.level ≡ L) × (h.name ≡ F) × (calls p ≡ false) × ((p ≡ []) ⊎ ((e ≡ true) × (h.status ≡ Found))))

pub down_low : (x w L F : ℕ) (S : Status) (h : Held) (e : Bool) (p : List Message) → Down x w L F S h e p → Levels L F h e p
down_low x w L F S h e [] c = let u = chain_low L F S h.level h.name [] c in grind arith
down_low x w L F S h e (Connect k ∷ p) c = absurd c
down_low x w L F S h e (Test k n ∷ p) c = absurd c
down_low x w L F S h e (Accept ∷ p) c = absurd c
down_low x w L F S h e (Reject ∷ p) c = absurd c
down_low x w L F S h e (Change ∷ p) c = absurd c
down_low x w L F S h e (Initiate k n z ∷ p) c = let u = chain_low L F S h.level h.name (Initiate k n z ∷ p) c in grind arith
down_low x w L F S h e (Report r ∷ p) c = let u = chain_low L F S h.level h.name p c.1 in grind arith

pub down_calm : (x w L F : ℕ) (S : Status) (h : Held) (e : Bool) (p : List Message) → Down x w L F S h e p → (S ≡ Find → ⊥) → calls p ≡ false
down_calm x w L F S h e [] c d = chain_calm L F S h.level h.name [] c d
down_calm x w L F S h e (Connect k ∷ p) c d = absurd c
down_calm x w L F S h e (Test k n ∷ p) c d = absurd c
down_calm x w L F S h e (Accept ∷ p) c d = absurd c
down_calm x w L F S h e (Reject ∷ p) c d = absurd c
down_calm x w L F S h e (Change ∷ p) c d = absurd c
down_calm x w L F S h e (Initiate k n z ∷ p) c d = chain_calm L F S h.level h.name (Initiate k n z ∷ p) c d
down_calm x w L F S h e (Report r ∷ p) c d = chain_calm L F S h.level h.name p c.1 d

pub down_more : (x w L F : ℕ) (S : Status) (L' F' : ℕ) (S' : Status) (s : Phase) (h : Held) (e : Bool) (p : List Message) → Down x w L F S h e p → calls p ≡ false → L < L' → (s ≡ phase.Find → S' ≡ Find) → Down x w L' F' S' h e (p ++ (Initiate L' F' s ∷ []))
down_more x w L F S L' F' S' s h e [] c d u b = chain_more L F S L' F' S' s h.level h.name [] c d u b
down_more x w L F S L' F' S' s h e (Connect k ∷ p) c d u b = absurd c
down_more x w L F S L' F' S' s h e (Test k n ∷ p) c d u b = absurd c
down_more x w L F S L' F' S' s h e (Accept ∷ p) c d u b = absurd c
down_more x w L F S L' F' S' s h e (Reject ∷ p) c d u b = absurd c
down_more x w L F S L' F' S' s h e (Change ∷ p) c d u b = absurd c
down_more x w L F S L' F' S' s h e (Initiate k n z ∷ p) c d u b = chain_more L F S L' F' S' s h.level h.name (Initiate k n z ∷ p) c d u b
down_more x w L F S L' F' S' s h e (Report r ∷ p) c d u b = (c.0, chain_more L F S L' F' S' s h.level h.name p c.1 d u b)

pub down_state : (x w L F : ℕ) (S S' : Status) (h : Held) (e : Bool) (p : List Message) → Down x w L F S h e p → (calls p ≡ false) ⊎ (S' ≡ S) → Down x w L F S' h e p
down_state x w L F S S' h e [] c d = chain_state L F S L F S' h.level h.name [] refl refl c d
down_state x w L F S S' h e (Connect k ∷ p) c d = absurd c
down_state x w L F S S' h e (Test k n ∷ p) c d = absurd c
down_state x w L F S S' h e (Accept ∷ p) c d = absurd c
down_state x w L F S S' h e (Reject ∷ p) c d = absurd c
down_state x w L F S S' h e (Change ∷ p) c d = absurd c
down_state x w L F S S' h e (Initiate k n z ∷ p) c d = chain_state L F S L F S' h.level h.name (Initiate k n z ∷ p) refl refl c d
down_state x w L F S S' h e (Report r ∷ p) c d = (c.0, chain_state L F S L F S' h.level h.name p refl refl c.1 d)

pub chain_down : (x w L F : ℕ) (S : Status) (h : Held) (e : Bool) (p : List Message) → Chain L F S h.level h.name p → Down x w L F S h e p
chain_down x w L F S h e [] c = c
chain_down x w L F S h e (Initiate k n z ∷ p) c = c
chain_down x w L F S h e (Connect k ∷ p) c = absurd c
chain_down x w L F S h e (Test k n ∷ p) c = absurd c
chain_down x w L F S h e (Accept ∷ p) c = absurd c
chain_down x w L F S h e (Reject ∷ p) c = absurd c
chain_down x w L F S h e (Change ∷ p) c = absurd c
chain_down x w L F S h e (Report r ∷ p) c = absurd c
