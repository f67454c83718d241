-- How many bytes an entry in range takes.
use Rattle.std.proofs.Common.{ℕ, ◌≤◌, List, ◌++◌, length, refl, ap, arith, length-append}
use Rattle.tree_log.specs.declared.entry.Entry.{Entry}
use Rattle.tree_log.specs.declared.entry.What.{What}
use Rattle.tree_log.specs.declared.entry.What.TheVariants as whats
use Rattle.std.specs.Int.{w8}
use Rattle.link_fields.specs.Basic.{number_bytes, u16, u32, text, url, flags, optional}
use Rattle.link_fields.specs.Origins.{any_host, origin}
use Rattle.link_fields.specs.Skipping.{data_field}
use Rattle.frame_grammar.specs.Parts.{target, load, cause}
use Rattle.frame_grammar.specs.Entries.{open_kind, frame_kind, drop_kind, name_kind, begin_kind, commit_kind, fragment_kind, opener_kind, post_kind, fire_kind, lapse_kind, closing_kind, gone_kind, lost_kind, sync_kind, hidden_kind, domain_kind, what_spelled, what_tag, what_body, what_row, entry}
use Rattle.link_wire.proofs.EntryLaws.{what_is}
use Rattle.exchange_laws.proofs.Fit.Parts.{WhatFits, parts_fit}
use Rattle.exchange_laws.proofs.Fit.Sizes.{byte_long, u16_size, u32_size, nothing_size, pair_size, only_size, optional_size, text_size, url_size, flags_size, origin_size, target_size, load_size, cause_size, data_size, kind_most}

-- the most that the fields of what happened take
abbrev most_what : ℕ
most_what = 6169

what_most : (w : What) → WhatFits w → length (what_body w) ≤ most_what
what_most (whats.Open nav doc group home o name opener fl navigator l) h =
    kind_most what_spelled open_kind 4149 most_what (omega arith)
    (pair_size u32 _ 4 4145 u32_size (pair_size u32 _ 4 4141 u32_size (pair_size u32 _ 4 4137 u32_size (pair_size u16 _ 2 4135 u16_size (pair_size origin _ 1032 3103 origin_size
    (pair_size text _ 1026 2077 text_size (pair_size (optional u32) _ 5 2072 (optional_size u32 4 u32_size) (pair_size flags _ 2 2070 flags_size
    (pair_size (optional u32) (optional load) 5 2065 (optional_size u32 4 u32_size) (optional_size load 2064 load_size))))))))))
    (λ a. refl) (whats.Open nav doc group home o name opener fl navigator l) h
what_most (whats.Frame nav doc home o name fl l) h =
    kind_most what_spelled frame_kind 4135 most_what (omega arith)
    (pair_size u32 _ 4 4131 u32_size (pair_size u32 _ 4 4127 u32_size (pair_size u16 _ 2 4125 u16_size (pair_size origin _ 1032 3093 origin_size
    (pair_size text _ 1026 2067 text_size (pair_size flags (optional load) 2 2065 flags_size (optional_size load 2064 load_size)))))))
    (λ a. refl) (whats.Frame nav doc home o name fl l) h
what_most (whats.Drop nav) h = kind_most what_spelled drop_kind 4 most_what (omega arith) u32_size (λ a. refl) (whats.Drop nav) h
what_most (whats.Name nav name) h = kind_most what_spelled name_kind 1030 most_what (omega arith) (pair_size u32 text 4 1026 u32_size text_size) (λ a. refl) (whats.Name nav name) h
what_most (whats.Begin nav l) h = kind_most what_spelled begin_kind 2068 most_what (omega arith) (pair_size u32 load 4 2064 u32_size load_size) (λ a. refl) (whats.Begin nav l) h
what_most (whats.Commit nav doc begin) h =
    kind_most what_spelled commit_kind 12 most_what (omega arith) (pair_size u32 _ 4 8 u32_size (pair_size u32 u32 4 4 u32_size u32_size)) (λ a. refl) (whats.Commit nav doc begin) h
what_most (whats.Fragment nav doc u) h =
    kind_most what_spelled fragment_kind 1034 most_what (omega arith) (pair_size u32 _ 4 1030 u32_size (pair_size u32 url 4 1026 u32_size url_size)) (λ a. refl) (whats.Fragment nav doc u) h
what_most (whats.Opener nav to) h =
    kind_most what_spelled opener_kind 9 most_what (omega arith) (pair_size u32 (optional u32) 4 5 u32_size (optional_size u32 4 u32_size)) (λ a. refl) (whats.Opener nav to) h
what_most (whats.Post to from o t body) h =
    kind_most what_spelled post_kind 6169 most_what (omega arith)
    (pair_size u32 _ 4 6165 u32_size (pair_size u32 _ 4 6161 u32_size (pair_size origin _ 1032 5129 origin_size (pair_size target data_field 1033 4096 target_size data_size))))
    (λ a. refl) (whats.Post to from o t body) h
what_most (whats.Fire doc post) h = kind_most what_spelled fire_kind 8 most_what (omega arith) (pair_size u32 u32 4 4 u32_size u32_size) (λ a. refl) (whats.Fire doc post) h
what_most (whats.Lapse doc post c) h =
    kind_most what_spelled lapse_kind 9 most_what (omega arith) (pair_size u32 _ 4 5 u32_size (pair_size u32 cause 4 1 u32_size cause_size)) (λ a. refl) (whats.Lapse doc post c) h
what_most (whats.Closing nav) h = kind_most what_spelled closing_kind 4 most_what (omega arith) u32_size (λ a. refl) (whats.Closing nav) h
what_most (whats.Gone nav) h = kind_most what_spelled gone_kind 4 most_what (omega arith) u32_size (λ a. refl) (whats.Gone nav) h
what_most (whats.Lost renderer) h = kind_most what_spelled lost_kind 2 most_what (omega arith) u16_size (λ a. refl) (whats.Lost renderer) h
what_most whats.Sync h = kind_most what_spelled sync_kind 0 most_what (omega arith) (nothing_size tt) (λ a. refl) whats.Sync h
what_most whats.Hidden h = kind_most what_spelled hidden_kind 0 most_what (omega arith) (nothing_size tt) (λ a. refl) whats.Hidden h
what_most (whats.Domain doc domain) h =
    kind_most what_spelled domain_kind 1030 most_what (omega arith) (pair_size u32 any_host 4 1026 u32_size (only_size _ _ text 1026 text_size)) (λ a. refl) (whats.Domain doc domain) h

-- an entry in range takes at most 6,178 bytes
pub entry_most : (e : Entry) → entry.Fits e → length (entry.spell e) ≤ 6178
unfolding entry
entry_most e h =
    let parts = parts_fit e h in
    let by : length ((optional u16).spell e.by) ≤ 3 = (optional_size u16 2 u16_size).most e.by parts.by in
    let actor : length ((optional u32).spell e.actor) ≤ 5 = (optional_size u32 4 u32_size).most e.actor parts.actor in
    let what : length (what_body e.what) ≤ 6169 = what_most e.what parts.what in
    let same = ap length (what_is e.what) in
    let row : List ℕ = (what_row (what_tag e.what)).spell e.what in
    omega (
      arith,
      length-append (number_bytes w8 (what_tag e.what)) ((optional u16).spell e.by ++ ((optional u32).spell e.actor ++ row)),
      byte_long (what_tag e.what),
      length-append ((optional u16).spell e.by) ((optional u32).spell e.actor ++ row),
      length-append ((optional u32).spell e.actor) row,
    )
