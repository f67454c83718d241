-- Start windows and losses are in range, where the log was.
use Rattle.std.proofs.Common.{ℕ, ◌+◌, ◌<◌, ◌≤◌, ◌^◌, List, [], ◌∷◌, length, refl, arith}
use Rattle.origin_core.specs.declared.origin.Origin.TheVariants.{Opaque}
use Rattle.origin_core.specs.Origin.{page_tuple}
use Rattle.tree_log.specs.declared.entry.Entry.{Entry}
use Rattle.tree_log.specs.Range.{IsLoadInRange}
use Rattle.tree_log.specs.Tree.{tree_of}
use Rattle.tree_log.proofs.Admitted.{few_of}
use Rattle.agent_laws.proofs.Logs.Admitted.{start_fits as start_step, lost_fits as lost_step}
use Rattle.coordinator_rules.specs.Decision.{Rules}
use Rattle.single_agent.specs.LegalLog.{lost_entry}
use Rattle.single_agent.specs.Session.{start_load, start_entry}
use Rattle.link_fields.specs.Basic.{u16, u32, url}
use Rattle.frame_grammar.specs.Parts.{load as load_field}
use Rattle.exchange_laws.specs.Fit.{AreFit, IsFitLog}
use Rattle.exchange_laws.proofs.Fit.Parts.{fits_of, none_fits, some_fits}
use Rattle.exchange_laws.proofs.Fit.Origins.{origin_fits, opaque_fits}
use Rattle.exchange_laws.proofs.Fit.Homes.{home_fits}
use Rattle.exchange_laws.proofs.Fit.Requests.{nothing_fits}
use Rattle.exchange_laws.proofs.Fit.Kept.{kept_by}
use Rattle.exchange_laws.proofs.Fit.Loads.{few_docs, flags_of_few, page_numbered}

start_load_fits : (rules : Rules) (log : List Entry) (page : List ℕ) → IsFitLog rules log → url.Fits page → IsLoadInRange (start_load rules (tree_of log) page) → load_field.Fits (start_load rules (tree_of log) page)
start_load_fits rules log page f u range =
    let t = tree_of log in
    let few : t.docs + 1 < 2 ^ 32 = few_docs log f.short in (
      (
        few,
        (
          home_fits log rules.renderers rules.suffixes t.groups _ f.admitted f.fit f.short f.some f.few,
          (origin_fits (start_load rules t page).origin range.1 (page_numbered (page_tuple page) (Opaque (t.docs + 1)) few), u),
        ),
      ),
      refl,
    )

-- a start window
start_fit : (rules : Rules) (log : List Entry) (page : List ℕ) → IsFitLog rules log → url.Fits page → IsLoadInRange (start_load rules (tree_of log) page) → AreFit (start_entry rules (tree_of log) page ∷ log)
start_fit rules log page f u range =
    let t = tree_of log in
    let few = few_of log in
    let short : length log < 2 ^ 30 = f.short in
    let navs : t.navs < 2 ^ 32 = omega (arith, few.navs) in
    let docs : t.docs < 2 ^ 32 = omega (arith, few.docs) in
    let groups : t.groups < 2 ^ 32 = omega (arith, few.groups) in
    let loads = start_load_fits rules log page f u range in (
      fits_of (start_entry rules t page)
          (record {
            by = none_fits u16;
            actor = none_fits u32;
            what = (
              _,
              (navs, (docs, (groups, (loads.0.1.0, (opaque_fits t.docs docs, (nothing_fits, (none_fits u32, (flags_of_few 0 (omega arith), (none_fits u32, some_fits load_field (start_load rules t page) loads))))))))),
              refl,
            );
          }),
      f.fit,
    )

-- the log with one more start window
pub start_fits : (rules : Rules) (log : List Entry) (page : List ℕ) → IsFitLog rules log → url.Fits page → IsLoadInRange (start_load rules (tree_of log) page) → length log + 1 < 2 ^ 30
    → IsFitLog rules (start_entry rules (tree_of log) page ∷ log)
start_fits rules log page f u range short =
    let e = start_entry rules (tree_of log) page in
    let all = (start_step rules log page f.short).1 in
    record {
      admitted = (all, f.admitted);
      fit = start_fit rules log page f u range;
      domains = kept_by log e (all, f.admitted) f.domains (λ d x is. absurd cc);
      short = omega arith;
      some = f.some;
      few = f.few;
    }

-- and with the loss of a renderer
pub lost_fits : (rules : Rules) (log : List Entry) (r : ℕ) → IsFitLog rules log → r < 2 ^ 16 → length log + 1 < 2 ^ 30 → IsFitLog rules (lost_entry r ∷ log)
lost_fits rules log r f lt short =
    let e = lost_entry r in
    let all = (lost_step rules log r f.short).1 in
    record {
      admitted = (all, f.admitted);
      fit = (fits_of e (record { by = none_fits u16; actor = none_fits u32; what = (r, lt, refl) }), f.fit);
      domains = kept_by log e (all, f.admitted) f.domains (λ d x is. absurd cc);
      short = omega arith;
      some = f.some;
      few = f.few;
    }

-- and before all
pub empty_fits : (rules : Rules) → 0 < rules.renderers → rules.renderers ≤ 2 ^ 16 → IsFitLog rules []
unfolding tree_of
empty_fits rules some few = record { admitted = tt; fit = tt; domains = λ d x is. absurd cc; short = omega arith; some = some; few = few }
