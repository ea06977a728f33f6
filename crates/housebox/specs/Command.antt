-- What the lines of the input say.
use Rattle.std.specs.Prelude.{ℕ, cond, ◌&&◌, ◌||◌, List, length, Some, None, vec_items, codes, Option, ◌==◌, slice_index}
use Rattle.std.specs.Str.{bytes_eq}
use Rattle.graph.specs.Text.{word_of, after_word, number_of}
use Rattle.housebox.specs.Hex.{bytes_of}
use Rattle.housebox.specs.declared.command.Delivery.{Delivery}
use Rattle.housebox.specs.declared.command.Command.{Command}
use Rattle.housebox.specs.declared.command.Command.TheVariants.{Wake, Packet, Answer, Show, Nothing, Unknown}

-- bytes, and the neighbour that they come from
pub record Delivered : Type 0 where
  pub from : ℕ
  pub bytes : List ℕ

pub data Said : Type 0 where
  wakes : Said
  packet : Delivered → Said
  answers : Delivered → Said
  shows : Said
  nothing : Said
  unknown : Said

-- what the code holds
abbrev pub delivered_by : Delivery → Delivered
delivered_by d = record { from = d.from; bytes = vec_items d.bytes }

abbrev pub said_by : Command → Said
said_by Wake = wakes
said_by (Packet d) = packet (delivered_by d)
said_by (Answer d) = answers (delivered_by d)
said_by Show = shows
said_by Nothing = nothing
said_by Unknown = unknown

abbrev pub carried_by : Option ℕ → Option (List ℕ) → List ℕ → Option Delivered
carried_by None bs end = None
carried_by (Some j) None end = None
carried_by (Some j) (Some bs) end = cond (length end == 0) (Some (record { from = j; bytes = bs })) None

-- a number, bytes in hexadecimal, and nothing behind them
abbrev pub carried_of : List ℕ → Option Delivered
carried_of rest = carried_by (number_of (word_of rest)) (bytes_of (word_of (after_word rest))) (word_of (after_word (after_word rest)))

-- a word with nothing behind it
abbrev pub bare_of : List ℕ → List ℕ → Said
bare_of w end = cond (length end == 0 && bytes_eq w (codes "wake")) wakes (cond (length end == 0 && bytes_eq w (codes "show")) shows unknown)

abbrev pub or_unknown : (Delivered → Said) → Option Delivered → Said
or_unknown says None = unknown
or_unknown says (Some d) = says d

-- by the first word of a line
abbrev pub said_with : List ℕ → List ℕ → Said
said_with w rest =
    cond (length w == 0 || slice_index w 0 == 35) nothing
    (cond (bytes_eq w (codes "packet")) (or_unknown packet (carried_of rest))
    (cond (bytes_eq w (codes "answer")) (or_unknown answers (carried_of rest)) (bare_of w (word_of rest))))

-- what a line says
abbrev pub said_of : List ℕ → Said
said_of line = said_with (word_of line) (after_word line)
