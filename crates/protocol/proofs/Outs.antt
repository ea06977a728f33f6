-- What a list of sends puts on each edge.
use Rattle.std.proofs.Common.{◌≡◌, ℕ, zero, suc, cond, not, ◌&&◌, eqb, ltb, List, [], ◌∷◌, ◌++◌, refl, arith}
use Rattle.message.specs.declared.messages.Message.{Message}
use Rattle.node.specs.Rules.{is_branch}
use Rattle.protocol.proofs.Held.{Send, Held, onward}

-- what a list of sends puts on the edge to k
abbrev pub out_to : ℕ → List Send → List Message
out_to k [] = []
out_to k (o ∷ os) = cond (eqb o.over k) (o.message ∷ out_to k os) (out_to k os)

pub out_to-++ : (k : ℕ) (os ps : List Send) → out_to k (os ++ ps) ≡ out_to k os ++ out_to k ps
out_to-++ k [] ps = refl
out_to-++ k (o ∷ os) ps = let ih = out_to-++ k os ps in grind arith

onward_more : (k : ℕ) (h : Held) (j : ℕ) (m : Message) (n : ℕ) (r : List Send) → out_to k r ≡ cond (ltb k n && (is_branch (h.mark k) && not (eqb k j))) (m ∷ []) [] →
    out_to k (cond (is_branch (h.mark n) && not (eqb n j)) (record { over = n; message = m } ∷ []) [] ++ r) ≡ cond (ltb k (suc n) && (is_branch (h.mark k) && not (eqb k j))) (m ∷ []) []
onward_more k h j m n r e = grind arith

pub out_to_onward : (k : ℕ) (h : Held) (j : ℕ) (m : Message) (n : ℕ) → out_to k (onward h j m n) ≡ cond (ltb k n && (is_branch (h.mark k) && not (eqb k j))) (m ∷ []) []
unfolding onward
out_to_onward k h j m zero = grind arith
out_to_onward k h j m (suc n) = onward_more k h j m n (onward h j m n) (out_to_onward k h j m n)
