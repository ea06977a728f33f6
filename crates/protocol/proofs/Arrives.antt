-- The end is reached: where a node sleeps or a message can be taken some step leaves less to do, and where not some node has halted.
use Rattle.std.proofs.Common.{◌≡◌, ℕ, zero, suc, ◌<◌, ◌≤◌, Bool, true, false, ◌⊎◌, List, [], ◌∷◌, ◌++◌, length, sym, refl, ap, ◌∙◌, subst, inl, inr, append_assoc, append-nil, arith}
use Rattle.std.proofs.lemmas.Bool.Decides.{eqb_tells}
use Rattle.message.specs.declared.messages.Message.{Message}
use Rattle.message.specs.declared.refusals.Refusal.{Refusal}
use Rattle.node.specs.declared.state.Node.{Node}
use Rattle.node.specs.declared.state.Taking.TheVariants.{Taken, Deferred, Refused}
use Rattle.node.specs.declared.state.Taking.{Taking}
use Rattle.node.specs.declared.state.Turn.{Turn}
use Rattle.node.specs.Rules.{is_sleeping, takes}
use Rattle.node.proofs.Took.{why_deferred}
use Rattle.graph.specs.Graph.{Graph, Weights}
use Rattle.protocol.proofs.Complete.{run_reach}
use Rattle.protocol.proofs.Moving.{moving}
use Rattle.protocol.proofs.Queues.{Has}
use Rattle.protocol.proofs.Spent.{every_run_ends}
use Rattle.protocol.proofs.Strays.{no_stray}
use Rattle.protocol.specs.Net.{Near, neighbour, Placed, Net, queueing, Step, waking, taking, deferring, Reach, Run, still, more}
use Rattle.protocol.specs.Runs.{left, move, moves, Ends}
use Rattle.protocol.specs.Theorems.{Closed}

-- below c some number is one of the first kind, or all are of the second
pub find_below : (P Q : ℕ → Type 0) (c : ℕ) → ((h : ℕ) → h < c → P h ⊎ Q h) → ((h : ℕ) × ((h < c) × P h)) ⊎ ((h : ℕ) → h < c → Q h)
find_below P Q zero f = inr (λ h l. absurd (omega arith))
find_below P Q (suc c) f = go (f c (omega arith)) (find_below P Q c (λ h l. f h (omega arith)))
  where
    go : P c ⊎ Q c → ((h : ℕ) × ((h < c) × P h)) ⊎ ((h : ℕ) → h < c → Q h) → ((h : ℕ) × ((h < suc c) × P h)) ⊎ ((h : ℕ) → h < suc c → Q h)
    go (inl u) r = inl (c, (omega arith, u))
    go (inr u) (inl r) = let l = r.1.0 in inl (r.0, (omega arith, r.1.1))
    go (inr u) (inr r) = inr (λ h l. elim (eqb_tells h c) [ inl e ↦ subst Q (sym e.1) u | inr e ↦ let d = e.1 in r h (omega arith) ])

has_here : (front back : List Message) (m : Message) → Has (front ++ (m ∷ back)) m
has_here [] back m = inl refl
has_here (y ∷ front) back m = inr (has_here front back m)

-- node n puts off all messages of a queue at its place k
abbrev PutsOff : ℕ → Node → List Message → Type 0
PutsOff k n q = (m : Message) → Has q m → takes k m n ≡ Deferred n

-- the first message of a queue that it does not put off
record First (k : ℕ) (n : Node) (q : List Message) : Type 0 where
  front : List Message
  message : Message
  back : List Message
  queue : q ≡ front ++ (message ∷ back)
  before : PutsOff k n front
  free : takes k message n ≡ Deferred n → ⊥

abbrev Frees : ℕ → Message → Node → Type 0
Frees k m n = (takes k m n ≡ Deferred n) ⊎ (takes k m n ≡ Deferred n → ⊥)

taken_not : (t : Turn) (n : Node) → Taken t ≡ Deferred n → ⊥
taken_not t n e = grind arith

refused_not : (o n : Node) (r : Refusal) → Refused o r ≡ Deferred n → ⊥
refused_not o n r e = grind arith

frees : (k : ℕ) (m : Message) (n : Node) → Frees k m n
frees k m n = go (takes k m n) refl
  where
    go : (T : Taking) → takes k m n ≡ T → Frees k m n
    go (Taken t) e = inr (λ u. taken_not t n (sym e ∙ u))
    go (Deferred o) e = inl (e ∙ ap Deferred (why_deferred n o k m e).0)
    go (Refused o r) e = inr (λ u. refused_not o n r (sym e ∙ u))

first_of : (k : ℕ) (n : Node) (q : List Message) → First k n q ⊎ PutsOff k n q
first_of k n [] = inr (λ m h. absurd h)
first_of k n (y ∷ q) = go (frees k y n) (first_of k n q)
  where
    behind : takes k y n ≡ Deferred n → (f : List Message) → PutsOff k n f → PutsOff k n (y ∷ f)
    behind e f p m (inl u) = subst (λ v. takes k v n ≡ Deferred n) (sym u) e
    behind e f p m (inr h) = p m h

    go : Frees k y n → First k n q ⊎ PutsOff k n q → First k n (y ∷ q) ⊎ PutsOff k n (y ∷ q)
    go (inr d) r = inl (record { front = []; message = y; back = q; queue = refl; before = λ m h. absurd h; free = d })
    go (inl e) (inl r) = inl (record { front = y ∷ r.front; message = r.message; back = r.back; queue = ap (λ v. y ∷ v) r.queue; before = behind e r.front r.before; free = r.free })
    go (inl e) (inr p) = inr (behind e q p)

module _ (g : Graph) (near : Near) where
  -- one run after another
  pub run_on : {n m o : Net} → Run g near n m → Run g near m o → Run g near n o
  run_on r still = r
  run_on r (more q s) = more (run_on r q) s

  -- a message has come to the head of its queue, and no node has changed
  record Headed (n : Net) (j i : ℕ) (m : Message) : Type 0 where
    net : Net
    run : Run g near n net
    same : net.node ≡ n.node
    rest : List Message
    head : net.way j i ≡ m ∷ rest

  -- those before it are put off one after another, each behind all
  headed : (i k : ℕ) (m : Message) → i < g.count → (front back : List Message) (n : Net) → is_sleeping (n.node i).status ≡ false →
      n.way (neighbour near i k) i ≡ front ++ (m ∷ back) → PutsOff k (n.node i) front → Headed n (neighbour near i k) i m
  headed i k m lt [] back n a q p = record { net = n; run = still; same = refl; rest = back; head = q }
  headed i k m lt (y ∷ front) back n a q p =
      let r = headed i k m lt front (back ++ (y ∷ [])) later a now (λ z h. p z (inr h)) in
      record { net = r.net; run = run_on (more still step) r.run; same = r.same; rest = r.rest; head = r.head }
    where
      others : List Message
      others = front ++ (m ∷ back)

      later : Net
      later = record { node = n.node; way = queueing (neighbour near i k) i (others ++ (y ∷ [])) n.way; count = n.count }

      step : Step g near n later
      step = deferring n i k y others [] lt a (q ∙ ap (λ v. y ∷ v) (sym (append-nil others))) (p y (inl refl))

      now : later.way (neighbour near i k) i ≡ front ++ (m ∷ (back ++ (y ∷ [])))
      now = let e : queueing (neighbour near i k) i (others ++ (y ∷ [])) n.way (neighbour near i k) i ≡ others ++ (y ∷ []) = grind arith in e ∙ append_assoc front (m ∷ back) (y ∷ [])

module _ (g : Graph) (w : Weights g) (small : g.count ≤ 256) (near : Near) (p : Placed g near) (C : ℕ → Bool) (K : Closed g C) (x : ℕ) (here : C x ≡ true) where
  abbrev Done : Net → Type 0
  Done n = (h : ℕ) × (C h ≡ true) × ((n.node h).halted ≡ true)

  -- a run that leaves less to do
  abbrev Nearer : Net → Type 0
  Nearer n = (m : Net) × (Run g near n m × (left g 8 m < left g 8 n))

  -- a move after a run
  nearer : {n m o : Net} → Reach g near n → (r : Run g near n m) (s : Step g near m o) → move s ≡ 1 → Nearer n
  unfolding moves
  nearer {n} {m} {o} R r s e = let z = every_run_ends g w near p 8 (omega arith) n R o (more r s) in (o, (more r s, omega arith))

  module _ (n : Net) (R : Reach g near n) where
    -- a node of these that sleeps wakes
    abbrev Sleeps : ℕ → Type 0
    Sleeps h = (C h ≡ true) × (is_sleeping (n.node h).status ≡ true)

    abbrev Up : ℕ → Type 0
    Up h = C h ≡ true → is_sleeping (n.node h).status ≡ false

    sleeps : (h : ℕ) → Sleeps h ⊎ Up h
    sleeps h = go (C h) (is_sleeping (n.node h).status) refl refl
      where
        go : (c s : Bool) → C h ≡ c → is_sleeping (n.node h).status ≡ s → Sleeps h ⊎ Up h
        go true true e f = inl (e, f)
        go c false e f = inr (λ u. f)
        go false true e f = inr (λ u. absurd (grind arith))

    -- a message that a node of these does not put off is taken
    abbrev Place : ℕ → ℕ → Type 0
    Place h k = First k (n.node h) (n.way (neighbour near h k) h)

    abbrev Idle : ℕ → ℕ → Type 0
    Idle h k = PutsOff k (n.node h) (n.way (neighbour near h k) h)

    take_first : (h k : ℕ) → h < g.count → k < length (near h) → is_sleeping (n.node h).status ≡ false → Place h k → Nearer n
    take_first h k lh lk a f = go (takes k f.message (v.net.node h)) refl
      where
        v : Headed g near n (neighbour near h k) h f.message
        v = headed g near h k f.message lh f.front f.back n a f.queue f.before

        go : (T : Taking) → takes k f.message (v.net.node h) ≡ T → Nearer n
        go (Taken t) e = nearer R v.run (taking v.net h k f.message v.rest t lh v.head e) refl
        go (Deferred o) e = absurd (f.free (subst (λ z. takes k f.message (z h) ≡ Deferred (z h)) v.same (e ∙ ap Deferred (why_deferred (v.net.node h) o k f.message e).0)))
        go (Refused o r) e = absurd (no_stray g w small near p v.net (run_reach g w near p R v.run) h k f.message v.rest o r lh lk v.head e)

    abbrev Takes : ℕ → Type 0
    Takes h = (C h ≡ true) × ((k : ℕ) × ((k < length (near h)) × Place h k))

    abbrev Waits : ℕ → Type 0
    Waits h = C h ≡ true → (k : ℕ) → k < length (near h) → Idle h k

    waits : (h : ℕ) → Takes h ⊎ Waits h
    waits h = go (C h) refl (find_below (Place h) (Idle h) (length (near h)) (λ k l. first_of k (n.node h) (n.way (neighbour near h k) h)))
      where
        go : (c : Bool) → C h ≡ c → ((k : ℕ) × ((k < length (near h)) × Place h k)) ⊎ ((k : ℕ) → k < length (near h) → Idle h k) → Takes h ⊎ Waits h
        go false e r = inr (λ u. absurd (grind arith))
        go true e (inl r) = inl (e, r)
        go true e (inr r) = inr (λ u. r)

    -- some step leaves less to do, or some node has halted
    onward : Done n ⊎ Nearer n
    onward = elim (find_below Sleeps Up g.count (λ h l. sleeps h)) [
      | inl s ↦ inr (nearer R still (waking n s.0 s.1.0 s.1.1.1) refl)
      | inr up ↦ elim (find_below Takes Waits g.count (λ h l. waits h)) [
        | inl t ↦ inr (take_first t.0 t.1.1.1.0 t.1.0 t.1.1.1.1.0 (up t.0 t.1.0 t.1.1.0) t.1.1.1.1.1)
        | inr off ↦ inl (moving g w near p n R C K (record { awake = λ y d. up y (K.nodes y d) d; deferred = λ y k m front back d l q. off y (K.nodes y d) d k l m (subst (λ v. Has v m) (sym q) (has_here front back m)) }) x here)
      ]
    ]

  -- so where no more than b is left to do
  within : (b : ℕ) (n : Net) → Reach g near n → left g 8 n < b → (m : Net) × (Run g near n m × Done m)
  within zero n R l = absurd (omega arith)
  within (suc b) n R l = elim (onward n R) [
    | inl d ↦ (n, (still, d))
    | inr u ↦ let less = u.1.1 in let v = within b u.0 (run_reach g w near p R u.1.0) (omega arith) in (v.0, (run_on g near u.1.0 v.1.0, v.1.1))
  ]

pub ends : Ends
ends g w small near p n R C K x here = within g w small near p C K x here (suc (left g 8 n)) n R (omega arith)
