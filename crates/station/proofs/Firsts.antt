-- What goes out over the links in order, link by link.
use Rattle.std.proofs.Common.{◌≡◌, ℕ, ◌+◌, Bool, true, false, cond, List, [], ◌++◌, sym, refl, ap, ◌∙◌, append_assoc, append-nil, add-one}
use Rattle.link.specs.Ends.{End}
use Rattle.station.specs.declared.outcome.Transmission.{Transmission}
use Rattle.station.specs.State.{link_in}
use Rattle.station.specs.Events.{firsts, oldest_to}

module _ (picks : ℕ → Bool) (es : List End) where
  pub firsts_none : firsts picks es 0 ≡ []
  unfolding firsts
  firsts_none = refl

  pub firsts_more : (k : ℕ) → firsts picks es (k + 1) ≡ firsts picks es k ++ cond (picks k) (oldest_to (link_in es k)) []
  unfolding firsts
  firsts_more k = rw add-one

  pub firsts_start : (before : List Transmission) → before ≡ before ++ firsts picks es 0
  firsts_start before = sym (ap (λ v. before ++ v) firsts_none ∙ append-nil before)

  -- a link that is picked sends
  pub firsts_sent : (k : ℕ) (before sends sent : List Transmission) (e : End) → picks k ≡ true → link_in es k ≡ e → sends ≡ before ++ firsts picks es k → sent ≡ sends ++ oldest_to e →
      sent ≡ before ++ firsts picks es (k + 1)
  firsts_sent k before sends sent e p r ih s =
      s ∙ (ap (λ v. v ++ oldest_to e) ih ∙ (append_assoc before (firsts picks es k) (oldest_to e) ∙
      ap (λ v. before ++ v) (ap (λ v. firsts picks es k ++ oldest_to v) (sym r) ∙ (ap (λ b. firsts picks es k ++ cond b (oldest_to (link_in es k)) []) (sym p) ∙ sym (firsts_more k)))))

  -- one that is not does not
  pub firsts_passed : (k : ℕ) (before sends : List Transmission) → picks k ≡ false → sends ≡ before ++ firsts picks es k → sends ≡ before ++ firsts picks es (k + 1)
  firsts_passed k before sends p ih =
      ih ∙ ap (λ v. before ++ v) (sym (append-nil (firsts picks es k)) ∙ (ap (λ b. firsts picks es k ++ cond b (oldest_to (link_in es k)) []) (sym p) ∙ sym (firsts_more k)))
