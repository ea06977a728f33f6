-- No connect comes over a rejected edge.
use Rattle.std.proofs.Common.{◌≡◌, List, [], ◌∷◌, ◌++◌, sym, ap, ◌∙◌, arith}
use Rattle.message.specs.declared.messages.Message.{Message}
use Rattle.message.specs.declared.messages.Message.TheVariants.{Connect}
use Rattle.protocol.specs.Net.{neighbour}
use Rattle.protocol.specs.Theorems.{NoLateConnect}
use Rattle.protocol.proofs.Control.{control, control-++}
use Rattle.protocol.proofs.Shape.{marked}
use Rattle.protocol.proofs.Right.{rejected_free}
use Rattle.protocol.proofs.Reaches.{reached}

not_empty : (p q : List Message) (x : Message) → p ++ (x ∷ q) ≡ [] → ⊥
not_empty [] q x e = grind arith
not_empty (y ∷ p) q x e = grind arith

pub no_late_connect : NoLateConnect
no_late_connect g w near p n r i k l front back lt q d e =
    let b = reached g w near p n r in
    let s = b.shaped i lt in
    let f = rejected_free (b.inv.edges i (neighbour near i k) (s.real k q)) (marked g i (near i) (n.node i) s k q ∙ d) in
    not_empty (control front) (control back) (Connect l) (sym (control-++ front (Connect l ∷ back)) ∙ sym (ap control e) ∙ f.back)
