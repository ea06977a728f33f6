-- Each number from its four bytes.
use Rattle.std.proofs.Common.{◌≡◌, ℕ, ◌/◌, ◌<◌, [], length, map, get_or, refl, sym, ap, ◌∙◌, arith, rules}
use Rattle.std.proofs.lemmas.List.{same_lists, length-map, get_or-map}
use Rattle.message.specs.Bytes.{word_at}
use Rattle.page.proofs.Places.{words_are, from_fn_at}
use Rattle.page.proofs.fields.weights_of.Goals as goal

pub returns : goal.returns
returns c =
    let words = c.as_chunks.result.0.now in
    let made = c.from_fn.ensures.items in
    let few : length c.from_fn.result ≡ 16 = made.long in
    let long : length words ≡ 16 = c.as_chunks.ensures.front_len ∙ ap (λ k. k / 4) c.told-bytes in
    let read = from_fn_at (λ f. f.0.now ≡ words) (λ k y. y ≡ word_at (get_or words k []) 0) (λ f q k y s e. let met = e.met in search rules) 16 _ c.from_fn.result made refl in
    let each : (k d : ℕ) → k < length c.from_fn.result → get_or c.from_fn.result k d ≡ get_or (map (λ w. word_at w 0) words) k d =
    λ k d h. read k d (omega arith) ∙ sym (get_or-map (λ w. word_at w 0) words k [] d (omega arith)) in
    same_lists c.from_fn.result (map (λ w. word_at w 0) words) (few ∙ sym (length-map words (λ w. word_at w 0) ∙ long)) each ∙ words_are words c.args.bytes.now c.as_chunks.ensures.front c.told-bytes
