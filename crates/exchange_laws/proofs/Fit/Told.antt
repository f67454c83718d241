-- What a renderer is told of a log in range is in range.
use Rattle.std.proofs.Common.{ℕ, zero, suc, ◌-◌, List, [], ◌∷◌, ◌++◌, length, take, reverse, Option, Some, None, Bool, true, false, refl, sym, subst}
use Rattle.std.specs.Prelude.{codes, if◌then◌else◌}
use Rattle.std.proofs.lemmas.List.{reverse-append}
use Rattle.origin_core.specs.Origin.{blank_text}
use Rattle.tree_log.specs.declared.entry.Entry.{Entry}
use Rattle.tree_log.specs.declared.entry.Load.{Load}
use Rattle.tree_log.specs.declared.entry.What.{What}
use Rattle.tree_log.specs.declared.entry.What.TheVariants as whats
use Rattle.tree_log.specs.Blanking.{blank_load, blank_load_or_none, blank_what, is_hidden, hidden, blank, is_homed}
use Rattle.tree_log.specs.Tree.{tree_of}
use Rattle.coordinator_rules.specs.Told.{told_log, news_from}
use Rattle.link_fields.specs.Basic.{u16, u32, url, optional}
use Rattle.frame_grammar.specs.Parts.{load as load_field}
use Rattle.frame_grammar.specs.Entries.{entry}
use Rattle.exchange_laws.specs.Fit.{AreFit}
use Rattle.exchange_laws.proofs.Fit.Parts.{WhatFits, fits_of, parts_fit, some_fits, none_fits, if_some}
use Rattle.exchange_laws.proofs.Fit.Blanks.{blank_url_fits, about_blank_fits}

-- LOADS

chosen_url : (b : Bool) (u v : List ℕ) → url.Fits u → url.Fits v → url.Fits (if b then u else v)
chosen_url true u v h k = h
chosen_url false u v h k = k

blank_load_fits : (kept : ℕ → Bool) (l : Load) → load_field.Fits l → load_field.Fits (blank_load kept l)
blank_load_fits kept l h = ((h.0.0, (h.0.1.0, (h.0.1.1.0, chosen_url (kept l.doc) l.url (blank_text l.origin) h.0.1.1.1 (blank_url_fits l.origin h.0.1.1.0)))), refl)

blank_load_or_none_fits : (kept : ℕ → Bool) (l : Option Load) → (optional load_field).Fits l → (optional load_field).Fits (blank_load_or_none kept l)
blank_load_or_none_fits kept None h = none_fits load_field
blank_load_or_none_fits kept (Some l) h = some_fits load_field (blank_load kept l) (blank_load_fits kept l (if_some load_field l h))

-- ENTRIES

Blanks : (ℕ → Bool) → What → Type 0
Blanks kept w = WhatFits (blank_what kept w)

blank_what_fits : (kept : ℕ → Bool) (w : What) → WhatFits w → WhatFits (blank_what kept w)
unfolding Blanks
blank_what_fits kept (whats.Open nav doc group home o name opener fl navigator l) h =
    let a = h.0 in
    let f = h.1 in
    subst (Blanks kept) h.2 (
      (a.0, (a.1.0, (a.1.1.0, (a.1.1.1.0, (a.1.1.1.1.0, (a.1.1.1.1.1.0, (a.1.1.1.1.1.1.0, (a.1.1.1.1.1.1.1.0, (a.1.1.1.1.1.1.1.1.0, blank_load_or_none kept a.1.1.1.1.1.1.1.1.1))))))))),
      (f.0, (f.1.0, (f.1.1.0, (f.1.1.1.0, (f.1.1.1.1.0, (f.1.1.1.1.1.0, (f.1.1.1.1.1.1.0, (f.1.1.1.1.1.1.1.0, (f.1.1.1.1.1.1.1.1.0, blank_load_or_none_fits kept a.1.1.1.1.1.1.1.1.1 f.1.1.1.1.1.1.1.1.1))))))))),
      refl,
    )
blank_what_fits kept (whats.Frame nav doc home o name fl l) h =
    let a = h.0 in
    let f = h.1 in
    subst (Blanks kept) h.2 (
      (a.0, (a.1.0, (a.1.1.0, (a.1.1.1.0, (a.1.1.1.1.0, (a.1.1.1.1.1.0, blank_load_or_none kept a.1.1.1.1.1.1)))))),
      (f.0, (f.1.0, (f.1.1.0, (f.1.1.1.0, (f.1.1.1.1.0, (f.1.1.1.1.1.0, blank_load_or_none_fits kept a.1.1.1.1.1.1 f.1.1.1.1.1.1)))))),
      refl,
    )
blank_what_fits kept (whats.Begin nav l) h =
    subst (Blanks kept) h.2 ((h.0.0, blank_load kept h.0.1), (h.1.0, blank_load_fits kept h.0.1 h.1.1), refl)
blank_what_fits kept (whats.Fragment nav doc u) h =
    subst (Blanks kept) h.2 (
      (h.0.0, (h.0.1.0, if kept h.0.1.0 then h.0.1.1 else codes "about:blank")),
      (h.1.0, (h.1.1.0, chosen_url (kept h.0.1.0) h.0.1.1 (codes "about:blank") h.1.1.1 about_blank_fits)),
      refl,
    )
blank_what_fits kept (whats.Drop nav) h = h
blank_what_fits kept (whats.Name nav name) h = h
blank_what_fits kept (whats.Commit nav doc begin) h = h
blank_what_fits kept (whats.Opener nav to) h = h
blank_what_fits kept (whats.Post to from o t body) h = h
blank_what_fits kept (whats.Fire doc post) h = h
blank_what_fits kept (whats.Lapse doc post c) h = h
blank_what_fits kept (whats.Closing nav) h = h
blank_what_fits kept (whats.Gone nav) h = h
blank_what_fits kept (whats.Lost renderer) h = h
blank_what_fits kept whats.Sync h = h
blank_what_fits kept whats.Hidden h = h
blank_what_fits kept (whats.Domain doc domain) h = h

hidden_fits : entry.Fits hidden
hidden_fits = fits_of hidden (record { by = none_fits u16; actor = none_fits u32; what = (tt, refl, refl) })

either_fits : (b : Bool) (e f : Entry) → entry.Fits e → entry.Fits f → entry.Fits (if b then e else f)
either_fits true e f h k = h
either_fits false e f h k = k

blank_fits : (kept : ℕ → Bool) (e : Entry) → entry.Fits e → entry.Fits (blank kept e)
blank_fits kept e h =
    let parts = parts_fit e h in
    let shown : Entry = record { by = e.by; actor = e.actor; what = blank_what kept e.what } in
    either_fits (is_hidden kept e.what) hidden shown hidden_fits
    (fits_of shown (record { by = parts.by; actor = parts.actor; what = blank_what_fits kept e.what parts.what }))

told_fits : (r : ℕ) (log : List Entry) → AreFit log → AreFit (told_log r log)
told_fits r [] h = tt
told_fits r (e ∷ older) h = (blank_fits (is_homed (tree_of (e ∷ older)) r) e h.0, told_fits r older h.1)

-- LISTS

pub take_fits : (k : ℕ) (es : List Entry) → AreFit es → AreFit (take k es)
take_fits zero es h = tt
take_fits (suc k) [] h = tt
take_fits (suc k) (e ∷ es) h = (h.0, take_fits k es h.1)

joined_fits : (es fs : List Entry) → AreFit es → AreFit fs → AreFit (es ++ fs)
joined_fits [] fs h k = k
joined_fits (e ∷ es) fs h k = (h.0, joined_fits es fs h.1 k)

reversed_fits : (es : List Entry) → AreFit es → AreFit (reverse es)
reversed_fits [] h = tt
reversed_fits (e ∷ es) h = subst AreFit (sym (reverse-append (e ∷ []) es)) (joined_fits (reverse es) (e ∷ []) (reversed_fits es h.1) (h.0, tt))

pub news_fit : (r from : ℕ) (log : List Entry) → AreFit log → AreFit (news_from r from log)
news_fit r from log h = reversed_fits (take (length log - from) (told_log r log)) (take_fits (length log - from) (told_log r log) (told_fits r log h))
