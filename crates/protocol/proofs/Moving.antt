-- Never stuck, of the net itself.
use Rattle.std.proofs.Common.{◌≡◌, ℕ, zero, suc, ◌<◌, Bool, true, false, ◌&&◌, ◌⊎◌, List, [], ◌∷◌, ◌++◌, length, sym, refl, ap, ◌∙◌, subst, inl, inr, arith}
use Rattle.std.proofs.lemmas.Bool.Decides.{eqb_tells}
use Rattle.message.specs.declared.messages.Message.{Message}
use Rattle.node.specs.declared.state.Status.{Status}
use Rattle.node.specs.declared.state.Status.TheVariants.{Sleeping}
use Rattle.node.specs.Rules.{is_sleeping}
use Rattle.graph.specs.Graph.{Edge}
use Rattle.protocol.specs.Net.{neighbour}
use Rattle.protocol.specs.Theorems.{NeverStuck}
use Rattle.protocol.proofs.Queues.{Has}
use Rattle.protocol.proofs.Frame.{Later}
use Rattle.protocol.proofs.Deferred.{later}
use Rattle.protocol.proofs.Events.{lift}
use Rattle.protocol.proofs.Stuck.{never_stuck}
use Rattle.protocol.proofs.Unstuck.{grounds_of}
use Rattle.protocol.proofs.Reaches.{Reached, reached}

-- a message of a queue stands somewhere in it
has_split : (q : List Message) (m : Message) → Has q m → (front : List Message) × ((back : List Message) × (q ≡ front ++ (m ∷ back)))
has_split [] m h = elim h [ ]
has_split (y ∷ q) m (inl e) = ([], (q, ap (λ v. v ∷ q) (sym e)))
has_split (y ∷ q) m (inr h) = let r = has_split q m h in (y ∷ r.0, (r.1.0, ap (λ v. y ∷ v) r.1.1))

-- some node below c passes a test, or none does
search_below : (f : ℕ → Bool) (c : ℕ) → ((h : ℕ) × (f h ≡ true)) ⊎ ((h : ℕ) → h < c → f h ≡ false)
search_below f zero = inr (λ h l. absurd (omega arith))
search_below f (suc c) = go (f c) refl (search_below f c)
  where
    go : (b : Bool) → f c ≡ b → ((h : ℕ) × (f h ≡ true)) ⊎ ((h : ℕ) → h < c → f h ≡ false) → ((h : ℕ) × (f h ≡ true)) ⊎ ((h : ℕ) → h < suc c → f h ≡ false)
    go true e r = inl (c, e)
    go false e (inl r) = inl r
    go false e (inr r) = inr (λ h l. elim (eqb_tells h c) [ inl u ↦ subst (λ v. f v ≡ false) (sym u.1) e | inr u ↦ let d = u.1 in r h (omega arith) ])

both_true : (a b : Bool) → (a && b) ≡ true → (a ≡ true) × (b ≡ true)
both_true true true e = (refl, refl)
both_true true false e = absurd (grind arith)
both_true false b e = absurd (grind arith)

pub not_asleep : (s : Status) → is_sleeping s ≡ false → s ≡ Sleeping → ⊥
not_asleep s e u = let z : is_sleeping Sleeping ≡ false = subst (λ v. is_sleeping v ≡ false) u e in grind arith

pub moving : NeverStuck
moving g w near p n r C K W x c = elim (search_below (λ h. C h && (n.node h).halted) g.count) [ inl f ↦ let b = both_true (C f.0) (n.node f.0).halted f.1 in (f.0, b.0, b.1) | inr f ↦ absurd (stuck f) ]
  where
    b : Reached g near n
    b = reached g w near p n r

    stuck : ((h : ℕ) → h < g.count → (C h && (n.node h).halted) ≡ false) → ⊥
    stuck f =
        never_stuck g w (lift near n) b.ghost (grounds_of g (lift near n) b.ghost b.inv) C
        (record { real = K.nodes; closed = K.closed; awake = λ y d. not_asleep (n.node y).status (W.awake y d); going = going; deferred = put_off }) x c
      where
        going : (y : ℕ) → C y ≡ true → (n.node y).halted ≡ true → ⊥
        going y d e = let z = f y (K.nodes y d) in grind arith

        put_off : (y z : ℕ) (m : Message) → C y ≡ true → Edge g y z → Has (n.way z y) m → Later z m ((lift near n).held y)
        put_off y z m d e h = by_place ((b.shaped y (K.nodes y d)).every z e)
          where
            by_place : (k : ℕ) × (k < length (near y)) × (neighbour near y k ≡ z) → Later z m ((lift near n).held y)
            by_place (k, l, u) =
                let s = has_split (n.way z y) m h in
                let q : n.way (neighbour near y k) y ≡ s.0 ++ (m ∷ s.1.0) = ap (λ v. n.way v y) u ∙ s.1.1 in
                subst (λ v. Later v m ((lift near n).held y)) u (later g y (near y) (n.node y) (b.shaped y (K.nodes y d)) (K.nodes y d) k m (W.awake y d) (W.deferred y k m s.0 s.1.0 d l q))
