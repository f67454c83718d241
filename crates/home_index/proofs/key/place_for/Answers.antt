use Rattle.std.proofs.Common.{◌≡◌, ℕ, List, Some, ap, sym, ◌∙◌}
use Rattle.std.specs.Prelude.{option_map, position, bytes_eq, string_bytes}
use Rattle.home_index.specs.Keyed.{named_place, place_of}
use Rattle.home_index.proofs.Places.{host_added}
use Rattle.home_index.proofs.key.place_for.Goals as goal

pub returns-in_ok-number-in-Named-clause-placed : goal.returns-in_ok-number-in-Named-clause-placed
returns-in_ok-number-in-Named-clause-placed c =
    let text = c.in_ok-from_str-in-Named.field-0 in
    let keys = c.insert_full.new.self.keys in
    let bytes : string_bytes text ≡ c.in-Named.host = c.in_ok-from_str-in-Named.ensures.ok ∙ c.as_str.ensures in
    ap (place_of keys) c.in-Named.is
    ∙ ap (option_map (named_place c.in-Named.scheme))
    (ap (λ (host : List ℕ). position (λ k. bytes_eq host (string_bytes k)) keys) (sym bytes)
    ∙ ap (position (λ k. bytes_eq (string_bytes text) (string_bytes k))) c.in_ok-number-in-Named.ensures.keys
    ∙ host_added c.args.hosts.now.keys text
    ∙ ap Some (sym c.in_ok-number-in-Named.ensures.index))
    ∙ ap Some (sym c.named_place.ensures)
