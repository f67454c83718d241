-- What a request brings about is in range.
use Rattle.std.proofs.Common.{◌≡◌, ℕ, ◌+◌, ◌<◌, ◌^◌, List, Option, Some, Bool, true, refl, arith}
use Rattle.std.specs.Prelude.{◌||◌, not, map, if◌then◌else◌}
use Rattle.std.specs.Char.{to_ascii_lowercase}
use Rattle.origin_core.specs.Site.{fits}
use Rattle.origin_core.specs.Flags.{has_navigation, has_origin, union}
use Rattle.tree_log.specs.declared.entry.Entry.{Entry}
use Rattle.tree_log.specs.declared.entry.What.{What}
use Rattle.tree_log.specs.Range.{IsInRange}
use Rattle.tree_log.specs.Tree.{Tree, tree_of, origin_of, domain_of, nav_of}
use Rattle.tree_log.proofs.Admitted.{few_of}
use Rattle.agent_terms.specs.declared.request.Request.{Request}
use Rattle.agent_terms.specs.declared.request.Request.TheVariants as ask
use Rattle.agent_laws.proofs.Groups.Well.{admitted_well}
use Rattle.coordinator_rules.specs.Navigation.{flags_in}
use Rattle.coordinator_rules.specs.Decision.{Rules, asker_of, is_address, effective_domain, group_in, frame_entry, new_window, window_flags}
use Rattle.link_fields.specs.Basic.{text, url, optional}
use Rattle.link_fields.specs.Origins.{host}
use Rattle.link_wire.specs.Requests.{IsRequest}
use Rattle.exchange_laws.specs.Fit.{IsFitLog}
use Rattle.exchange_laws.proofs.Made.{url_in, name_in, IsMade, Syncs, Frames, Drops, Windows, Begins, Fragments, Openers, Names, Closes, Posts, Relaxes}
use Rattle.exchange_laws.proofs.Fit.Parts.{WhatFits}
use Rattle.exchange_laws.proofs.Fit.Births.{made_flags_fit, flags_below}
use Rattle.exchange_laws.proofs.Fit.Requests.{urls_fit, url_fits, name_fits, frame_parts, post_parts}
use Rattle.exchange_laws.proofs.Fit.Domains.{kind_fits, set_fits, effective_fits}
use Rattle.exchange_laws.proofs.Fit.Named.{IsNamed, IsSmall, one_fits}
use Rattle.exchange_laws.proofs.Fit.Loads.{union_fits, asker_origin, asker_home, new_origin, load_fits, frame_load_fits, window_load_fits, window_flags_fit, window_name_fits, unless_fits}

-- a number of a small tree
below : (count n : ℕ) → count < 2 ^ 31 + 2 → n < count → n < 2 ^ 32
below count n few lt = omega arith

frame_in_range : (rules : Rules) (log : List Entry) (asker : ℕ) (name : List ℕ) (fl : ℕ) (page : Option (List ℕ)) → IsFitLog rules log → asker < (tree_of log).docs → IsRequest (ask.Frame asker name fl page)
    → IsInRange (frame_entry rules (tree_of log) asker name (union fl (flags_in (tree_of log) (nav_of (tree_of log) asker))) page)
    → WhatFits (frame_entry rules (tree_of log) asker name (union fl (flags_in (tree_of log) (nav_of (tree_of log) asker))) page)
frame_in_range rules log asker name fl page f there is range =
    let t = tree_of log in
    let parts = frame_parts asker name fl page is in
    let few = few_of log in
    let navs : t.navs < 2 ^ 32 = omega (arith, few.navs, f.short) in
    let docs : t.docs < 2 ^ 32 = omega (arith, few.docs, f.short) in
    let all = union fl (flags_in t (nav_of t asker)) in (
      _,
      (
        navs,
        (
          docs,
          (
            asker_home rules log asker f there,
            (
              new_origin (has_origin all) t.docs (origin_of t asker) docs (asker_origin rules log asker f there),
              (
                parts.name_is,
                (
                  union_fits fl (flags_in t (nav_of t asker)) (flags_below fl parts.flags_are) (made_flags_fit log (nav_of t asker) f.fit),
                  frame_load_fits rules log asker all page f there parts.url_is range.1,
                ),
              ),
            ),
          ),
        ),
      ),
      refl,
    )

window_in_range : (rules : Rules) (log : List Entry) (asker : ℕ) (name : List ℕ) (noopener : Bool) (page : Option (List ℕ)) → IsFitLog rules log → asker < (tree_of log).docs → text.Fits name → (optional url).Fits page
    → (if noopener then (tree_of log).groups else group_in (tree_of log) (nav_of (tree_of log) asker)) < 2 ^ 32
    → IsInRange (new_window rules (tree_of log) asker name noopener page) → WhatFits (new_window rules (tree_of log) asker name noopener page)
window_in_range rules log asker name noopener page f there named u group_few range =
    let t = tree_of log in
    let few = few_of log in
    let n : ℕ = nav_of t asker in
    let navs : t.navs < 2 ^ 32 = omega (arith, few.navs, f.short) in
    let docs : t.docs < 2 ^ 32 = omega (arith, few.docs, f.short) in
    let n_few : n < 2 ^ 32 = let lt : n < t.navs = (admitted_well log f.admitted).below asker there in omega arith in
    let group : ℕ = if noopener then t.groups else group_in t n in (
      _,
      (
        navs,
        (
          docs,
          (
            group_few,
            (
              asker_home rules log asker f there,
              (
                new_origin noopener t.docs (origin_of t asker) docs (asker_origin rules log asker f there),
                (
                  window_name_fits name named,
                  (
                    unless_fits noopener n n_few,
                    (
                      window_flags_fit rules log n f,
                      (
                        unless_fits (noopener || not (has_navigation (flags_in t n))) n n_few,
                        window_load_fits rules log asker group (window_flags t n) page f there u range.1,
                      ),
                    ),
                  ),
                ),
              ),
            ),
          ),
        ),
      ),
      refl,
    )

-- a domain that a document sets
pub relaxed_fits : (rules : Rules) (log : List Entry) (asker : ℕ) (value effective : List ℕ) → IsFitLog rules log → asker < (tree_of log).docs
    → effective_domain (origin_of (tree_of log) asker) (domain_of (tree_of log) asker) ≡ Some effective
    → fits (map to_ascii_lowercase value) effective (is_address (origin_of (tree_of log) asker)) rules.suffixes ≡ true
    → (host (is_address (origin_of (tree_of log) asker))).Fits (map to_ascii_lowercase value)
relaxed_fits rules log asker value effective f there e fit =
    let o = origin_of (tree_of log) asker in
    set_fits value effective (is_address o) rules.suffixes (effective_fits o (domain_of (tree_of log) asker) effective (asker_origin rules log asker f there) (f.domains asker) e) fit

-- what a request brings about on a log in range, where its numbers and its origins are
pub made_fits : (rules : Rules) (log : List Entry) (t : Tree) (q : Request) (w : What) → IsFitLog rules log → asker_of q < (tree_of log).docs → IsRequest q → IsSmall t → IsNamed t w → IsInRange w
    → IsMade rules (tree_of log) q w → WhatFits w
made_fits rules log t q w f there is small n range (Syncs _) = (tt, refl, refl)
made_fits rules log t q w f there is small n range (Frames asker name fl page) = frame_in_range rules log asker name fl page f there is range
made_fits rules log t q w f there is small n range (Drops _ nav) = (nav, below t.navs nav (omega (arith, small.navs)) n, refl)
made_fits rules log t q w f there is small n range (Windows _ noopener) =
    window_in_range rules log (asker_of q) (name_in q) noopener (url_in q) f there (name_fits q is) (urls_fit q is) (omega (arith, n, small.groups)) range
made_fits rules log t q w f there is small n range (Begins _ nav page e) =
    let s = tree_of log in (
      _,
      (
        below t.navs nav (omega (arith, small.navs)) n,
        load_fits rules log (group_in s nav) (flags_in s nav) s.docs (asker_of q) page f there (omega (arith, (few_of log).docs, f.short)) (url_fits q page is e) range,
      ),
      refl,
    )
made_fits rules log t q w f there is small n range (Fragments _ nav d page e) = (_, (below t.navs nav (omega (arith, small.navs)) n.0, (below t.docs d small.docs n.1, url_fits q page is e)), refl)
made_fits rules log t q w f there is small n range (Openers _ nav to) = (_, (below t.navs nav (omega (arith, small.navs)) n.0, one_fits t to small n.1), refl)
made_fits rules log t q w f there is small n range (Names _ nav) = (_, (below t.navs nav (omega (arith, small.navs)) n, name_fits q is), refl)
made_fits rules log t q w f there is small n range (Closes _ nav) = (nav, below t.navs nav (omega (arith, small.navs)) n, refl)
made_fits rules log t q w f there is small n range (Posts asker doc target body) =
    let parts = post_parts asker doc target body is in (
      _,
      (below t.docs doc small.docs n.0, (below t.navs (nav_of (tree_of log) asker) (omega (arith, small.navs)) n.1, (asker_origin rules log asker f there, (parts.target_is, parts.body_is)))),
      refl,
    )
made_fits rules log t q w f there is small n range (Relaxes asker value effective e fit) =
    (_, (below t.docs asker small.docs n, kind_fits (map to_ascii_lowercase value) (is_address (origin_of (tree_of log) asker)) (relaxed_fits rules log asker value effective f there e fit)), refl)
