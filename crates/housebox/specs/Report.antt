-- What is printed.
use Rattle.std.specs.Prelude.{ℕ, zero, suc, cond, List, [], ◌++◌, length, codes, decimal, nat_lt, slice_index_or}
use Rattle.std.specs.List.{flat_map}
use Rattle.message.specs.declared.refusals.Refusal.{Refusal}
use Rattle.message.specs.Refusals.{number_of, words_of}
use Rattle.message.specs.Bytes.{packet_bytes, acknowledgement_bytes}
use Rattle.graph.specs.declared.mark.Mark.{Mark}
use Rattle.graph.specs.declared.mark.Mark.TheVariants.{Basic, Branch, Rejected}
use Rattle.station.specs.declared.outcome.Transmission.{Transmission}
use Rattle.station.specs.declared.outcome.Transmission.TheVariants.{Packet, Acknowledgement}
use Rattle.station.specs.State.{State, link_at}
use Rattle.station.specs.Events.{Did}
use Rattle.housebox.specs.Hex.{hex_of}

-- a word, a blank, a number and a blank
abbrev pub numbered : List ℕ → ℕ → List ℕ
numbered w n = w ++ (codes " " ++ (decimal n ++ codes " "))

-- the same, and then the rest of the line
abbrev pub line_of : List ℕ → ℕ → List ℕ → List ℕ
line_of w n rest = numbered w n ++ (rest ++ codes "\n")

-- the number of a refusal, and its words
abbrev pub refused_text : Refusal → List ℕ
refused_text r = numbered (codes "refused") (number_of r) ++ words_of r

abbrev pub refusal_line : Refusal → List ℕ
refusal_line r = line_of (codes "refused") (number_of r) (words_of r)

abbrev pub send_line : Transmission → List ℕ
send_line (Packet j p) = line_of (codes "packet") j (hex_of (packet_bytes p))
send_line (Acknowledgement j a) = line_of (codes "answer") j (hex_of (acknowledgement_bytes a))

-- of an event: what was turned away, then what is sent
abbrev pub told_of : Did → List ℕ
told_of d = flat_map refusal_line d.refusals ++ flat_map send_line d.sends

abbrev pub lamp_words : Mark → List ℕ
lamp_words Basic = codes "wait"
lamp_words Branch = codes "dig"
lamp_words Rejected = codes "don't"

abbrev pub lamp_text : ℕ → Mark → List ℕ
lamp_text j m = numbered (codes "lamp") j ++ lamp_words m

abbrev pub lamp_line : ℕ → Mark → List ℕ
lamp_line j m = line_of (codes "lamp") j (lamp_words m)

-- the lamp of the line at a place, if there is one
abbrev pub lamp_at : State → ℕ → List ℕ
lamp_at s k = cond (nat_lt k (length s.links)) (lamp_line (link_at s k).neighbour (slice_index_or s.node.marks k Basic)) []

-- those of the first k places
unfoldable pub lamps_below : State → ℕ → List ℕ
lamps_below s zero = []
lamps_below s (suc k) = lamps_below s k ++ lamp_at s k

-- each lamp, and whether all is done
abbrev pub shown_of : State → List ℕ
shown_of s = lamps_below s 16 ++ cond s.node.halted (codes "done\n") []
