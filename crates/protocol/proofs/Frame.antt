-- What a step does to one node, and to two nodes and the two queues between them.
use Rattle.std.proofs.Common.{◌≡◌, ℕ, ◌+◌, ◌<◌, ◌≤◌, true, false, eqb, ◌⊎◌, List, [], ◌∷◌, ◌++◌, length, Some, sym, subst, subst₂, inl, inr}
use Rattle.std.proofs.lemmas.Bool.Decides.{eqb_tells}
use Rattle.message.specs.declared.messages.Message.{Message}
use Rattle.message.specs.declared.messages.Message.TheVariants.{Connect, Initiate, Test, Accept, Reject, Report, Change}
use Rattle.node.specs.declared.state.Status.TheVariants.{Sleeping, Find}
use Rattle.graph.specs.declared.mark.Mark.TheVariants.{Basic}
use Rattle.graph.specs.Graph.{Graph}
use Rattle.protocol.proofs.Deed.{In, woke, got, Deed}
use Rattle.protocol.proofs.Held.{Send, Held, bare}
use Rattle.protocol.proofs.Outs.{out_to}
use Rattle.protocol.proofs.Queues.{Has}

-- a message that a node puts off
abbrev pub Later : ℕ → Message → Held → Type 0
Later j (Connect l) h = (h.mark j ≡ Basic) × (h.level ≤ l)
Later j (Initiate l f s) h = ⊥
Later j (Test l f) h = h.level < l
Later j Accept h = ⊥
Later j Reject h = ⊥
Later j (Report w) h = (h.parent ≡ Some j) × (h.status ≡ Find)
Later j Change h = ⊥

-- what is left of the queue from b once a node has acted on inp
-- the net as the proof looks at it. way i j: what is under way from i to j, the oldest first; count: how many messages were ever sent
pub record Lifted : Type 0 where
  pub held : ℕ → Held
  pub way : ℕ → ℕ → List Message
  pub count : ℕ

-- at first all sleep, and nothing was sent
abbrev pub start : Lifted
start = record { held = λ i. bare; way = λ i j. []; count = 0 }

abbrev pub Took : ℕ → In → List Message → List Message → Type 0
Took b woke q r = r ≡ q
Took b (got j m) q r = ((j ≡ b) × (q ≡ m ∷ r)) ⊎ ((j ≡ b → ⊥) × (r ≡ q))

-- a node that wakes slept, and one that takes a message is awake
abbrev pub Awake : Held → In → Type 0
Awake h woke = h.status ≡ Sleeping
Awake h (got j m) = h.status ≡ Sleeping → ⊥

-- the message stood at the head of its queue
abbrev pub From : Lifted → ℕ → In → Type 0
From n i woke = Unit {0}
From n i (got j m) = (rest : List Message) × (n.way j i ≡ m ∷ rest)

-- node i may act on inp
pub record Ready (t : Graph) (n : Lifted) (i : ℕ) (h : Held) (inp : In) : Type 0 where
  pub inside : i < t.count
  pub awake : Awake h inp
  pub source : From n i inp

-- node i acts, and what that changes
pub record Act (t : Graph) (n m : Lifted) (i : ℕ) (inp : In) (g : Held) (os : List Send) : Type 0 where
  pub ready : Ready t n i (n.held i) inp
  pub does : Deed t i (n.held i) inp g os
  pub self : m.held i ≡ g
  pub others : (a : ℕ) → (a ≡ i → ⊥) → m.held a ≡ n.held a
  pub sent : (b : ℕ) → (b ≡ i → ⊥) → m.way i b ≡ n.way i b ++ out_to b os
  pub took : (b : ℕ) → (b ≡ i → ⊥) → Took b inp (n.way b i) (m.way b i)
  pub far : (a b : ℕ) → (a ≡ i → ⊥) → (b ≡ i → ⊥) → m.way a b ≡ n.way a b
  pub came : (a b : ℕ) (x : Message) → Has (m.way a b) x → Has (n.way a b) x ⊎ ((a ≡ i) × Has (out_to b os) x)
  pub count : m.count ≡ n.count + length os

-- a message is put off, behind some of those that wait
pub record Off (t : Graph) (n m : Lifted) (i j : ℕ) (x : Message) (front back : List Message) : Type 0 where
  pub inside : i < t.count
  pub yet : Later j x (n.held i)
  pub helds : (a : ℕ) → m.held a ≡ n.held a
  pub before : n.way j i ≡ x ∷ (front ++ back)
  pub after : m.way j i ≡ front ++ (x ∷ back)
  pub far : (a b : ℕ) → ((a ≡ j) × (b ≡ i) → ⊥) → m.way a b ≡ n.way a b
  pub came : (a b : ℕ) (z : Message) → Has (m.way a b) z → Has (n.way a b) z
  pub count : m.count ≡ n.count

pub data Event (t : Graph) (n m : Lifted) : Type 0 where
  act : (i : ℕ) (inp : In) (g : Held) (os : List Send) → Act t n m i inp g os → Event t n m
  off : (i j : ℕ) (x : Message) (front back : List Message) → Off t n m i j x front back → Event t n m

both : (a b i j : ℕ) → ((a ≡ i) × (b ≡ j)) ⊎ ((a ≡ i) × (b ≡ j) → ⊥)
both a b i j = go (eqb_tells a i) (eqb_tells b j)
  where
    go : ((eqb a i ≡ true) × (a ≡ i)) ⊎ ((eqb a i ≡ false) × (a ≡ i → ⊥)) → ((eqb b j ≡ true) × (b ≡ j)) ⊎ ((eqb b j ≡ false) × (b ≡ j → ⊥)) → ((a ≡ i) × (b ≡ j)) ⊎ ((a ≡ i) × (b ≡ j) → ⊥)
    go (inl x) (inl y) = inl (x.1, y.1)
    go (inl x) (inr y) = inr (λ e. y.1 e.1)
    go (inr x) y = inr (λ e. x.1 e.0)

-- a and b are two nodes: node a, node b, queue a to b, queue b to a; before and after
pub data Pair (t : Graph) (n : Lifted) (a b : ℕ) : Held → Held → List Message → List Message → Held → Held → List Message → List Message → Type 0 where
  unconcerned : {h k : Held} {p q : List Message} → Pair t n a b h k p q h k p q
  first_acts : {h k g : Held} {p q r : List Message} (inp : In) (os : List Send) → Ready t n a h inp → Deed t a h inp g os → Took b inp q r → Pair t n a b h k p q g k (p ++ out_to b os) r
  second_acts : {h k g : Held} {p q r : List Message} (inp : In) (os : List Send) → Ready t n b k inp → Deed t b k inp g os → Took a inp p r → Pair t n a b h k p q h g r (q ++ out_to a os)
  first_defers : {h k : Held} {p : List Message} (m : Message) (front back : List Message) → Later b m h → Pair t n a b h k p (m ∷ (front ++ back)) h k p (front ++ (m ∷ back))
  second_defers : {h k : Held} {q : List Message} (m : Message) (front back : List Message) → Later a m k → Pair t n a b h k (m ∷ (front ++ back)) q h k (front ++ (m ∷ back)) q

-- the same of one node
pub data OneNode (t : Graph) (n : Lifted) (a : ℕ) : Held → Held → Type 0 where
  unmoved : {h : Held} → OneNode t n a h h
  acting : {h g : Held} (inp : In) (os : List Send) → Ready t n a h inp → Deed t a h inp g os → OneNode t n a h g

abbrev pub Sees : Graph → Lifted → Lifted → ℕ → ℕ → Type 0
Sees t n m a b = Pair t n a b (n.held a) (n.held b) (n.way a b) (n.way b a) (m.held a) (m.held b) (m.way a b) (m.way b a)

pub node : {t : Graph} {n m : Lifted} → Event t n m → (a : ℕ) → OneNode t n a (n.held a) (m.held a)
node {t} {n} {m} (act i inp g os c) a = go (eqb_tells a i)
  where
    self : Act t n m a inp g os → OneNode t n a (n.held a) (m.held a)
    self c = rw c.self (acting inp os c.ready c.does)

    go : ((eqb a i ≡ true) × (a ≡ i)) ⊎ ((eqb a i ≡ false) × (a ≡ i → ⊥)) → OneNode t n a (n.held a) (m.held a)
    go (inl (y, e)) = self (subst (λ x. Act t n m x inp g os) (sym e) c)
    go (inr (y, f)) = rw (c.others a f) unmoved
node (off i j x front back c) a = rw (c.helds a) unmoved

pub sees : {t : Graph} {n m : Lifted} → Event t n m → (a b : ℕ) → (a ≡ b → ⊥) → Sees t n m a b
sees {t} {n} {m} (act i inp g os c) a b d = go (eqb_tells a i) (eqb_tells b i)
  where
    mine : Act t n m a inp g os → Sees t n m a b
    mine c = let f : b ≡ a → ⊥ = λ e. d (sym e) in rw (c.self, c.others b f, c.sent b f) (first_acts inp os c.ready c.does (c.took b f))

    theirs : Act t n m b inp g os → Sees t n m a b
    theirs c = rw (c.self, c.others a d, c.sent a d) (second_acts inp os c.ready c.does (c.took a d))

    go : ((eqb a i ≡ true) × (a ≡ i)) ⊎ ((eqb a i ≡ false) × (a ≡ i → ⊥)) → ((eqb b i ≡ true) × (b ≡ i)) ⊎ ((eqb b i ≡ false) × (b ≡ i → ⊥)) → Sees t n m a b
    go (inl (y, e)) z = mine (subst (λ x. Act t n m x inp g os) (sym e) c)
    go (inr y) (inl (z, e)) = theirs (subst (λ x. Act t n m x inp g os) (sym e) c)
    go (inr (y, f)) (inr (z, k)) = rw (c.others a f, c.others b k, c.far a b f k, c.far b a k f) unconcerned
sees {t} {n} {m} (off i j x front back c) a b d = go (both a b i j) (both b a i j)
  where
    mine : Off t n m a b x front back → Sees t n m a b
    mine c = rw (c.helds a, c.helds b, c.far a b (λ e. d e.0), c.before, c.after) (first_defers x front back c.yet)

    theirs : Off t n m b a x front back → Sees t n m a b
    theirs c = rw (c.helds a, c.helds b, c.far b a (λ e. d e.1), c.before, c.after) (second_defers x front back c.yet)

    go : ((a ≡ i) × (b ≡ j)) ⊎ ((a ≡ i) × (b ≡ j) → ⊥) → ((b ≡ i) × (a ≡ j)) ⊎ ((b ≡ i) × (a ≡ j) → ⊥) → Sees t n m a b
    go (inl (e, k)) z = mine (subst₂ (λ x' y. Off t n m x' y x front back) (sym e) (sym k) c)
    go (inr y) (inl (e, k)) = theirs (subst₂ (λ x' y. Off t n m x' y x front back) (sym e) (sym k) c)
    go (inr y) (inr z) = rw (c.helds a, c.helds b, c.far a b (λ e. z (e.1, e.0)), c.far b a (λ e. y (e.1, e.0))) unconcerned

-- every message of a queue was there before, or its node has just sent it
pub data Origin (t : Graph) (n : Lifted) (a b : ℕ) (x : Message) : Held → Held → Type 0 where
  was_there : {h g : Held} → Has (n.way a b) x → Origin t n a b x h g
  just_sent : {h g : Held} (inp : In) (os : List Send) → Ready t n a h inp → Deed t a h inp g os → Has (out_to b os) x → Origin t n a b x h g

pub origin : {t : Graph} {n m : Lifted} → Event t n m → (a b : ℕ) (x : Message) → Has (m.way a b) x → Origin t n a b x (n.held a) (m.held a)
origin {t} {n} {m} (act i inp g os c) a b x h = go (c.came a b x h)
  where
    self : Act t n m a inp g os → Has (out_to b os) x → Origin t n a b x (n.held a) (m.held a)
    self c k = rw c.self (just_sent inp os c.ready c.does k)

    go : Has (n.way a b) x ⊎ ((a ≡ i) × Has (out_to b os) x) → Origin t n a b x (n.held a) (m.held a)
    go (inl k) = was_there k
    go (inr (e, k)) = self (subst (λ y. Act t n m y inp g os) (sym e) c) k
origin (off i j y front back c) a b x h = was_there (c.came a b x h)
