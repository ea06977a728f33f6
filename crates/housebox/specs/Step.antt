-- What an event comes to.
use Rattle.std.specs.Prelude.{◌≡◌, true, false, vec_items, string_bytes, Result, MatchResult}
use Rattle.page.specs.Page.{page_bytes, fits}
use Rattle.station.specs.State.{state_of}
use Rattle.station.specs.Events.{Did}
use Rattle.housebox.specs.Report.{told_of}
use Rattle.housebox.specs.declared.step.Step.{Step}
use Rattle.housebox.specs.declared.step.Unstepped.{Unstepped}
use Rattle.housebox.specs.declared.step.Unstepped.TheVariants.{Memory, Full, Unfit}

-- a page is said not to fit only where it doesn't
abbrev pub WhyNoStep : Unstepped → Did → Type 0
WhyNoStep Memory d = Unit {0}
WhyNoStep Full d = fits d.state ≡ false
WhyNoStep Unfit d = fits d.state ≡ true

-- the station after the event, its page, and what is told of the event; or why there is none
abbrev pub Steps : Did → Result Step Unstepped → Type 0
Steps d r =
    MatchResult r (λ s. (state_of s.station ≡ d.state) × (vec_items s.page ≡ page_bytes d.state) × (string_bytes s.words ≡ told_of d))
    (λ e. WhyNoStep e d)
