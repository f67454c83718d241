-- The loads and navigables that a request makes are in range.
use Rattle.std.proofs.Common.{◌≡◌, ℕ, ◌+◌, ◌<◌, ◌^◌, List, [], length, Option, Some, None, Bool, true, false, refl, subst, arith}
use Rattle.std.specs.Prelude.{codes, nat_lt, unwrap_or, option_map, is_none, IfSome, if◌then◌else◌}
use Rattle.std.proofs.lemmas.Nat.{or_lt}
use Rattle.std.proofs.lemmas.Bool.Decides.{nat_tests}
use Rattle.origin_core.specs.declared.origin.Origin.{Origin}
use Rattle.origin_core.specs.declared.origin.Origin.TheVariants.{Tuple, Opaque}
use Rattle.origin_core.specs.Flags.{has_origin, has_propagates, union}
use Rattle.origin_core.specs.Origin.{page_tuple, page_origin, loaded_origin}
use Rattle.origin_core.specs.Tuple.{TupleParts}
use Rattle.tree_log.specs.declared.entry.Entry.{Entry}
use Rattle.tree_log.specs.declared.entry.Load.{Load}
use Rattle.tree_log.specs.Range.{IsLoadInRange}
use Rattle.tree_log.specs.Tree.{tree_of, origin_of, home_of, nav_of}
use Rattle.tree_log.proofs.Admitted.{few_of}
use Rattle.coordinator_rules.specs.Navigation.{flags_in, is_word}
use Rattle.coordinator_rules.specs.Decision.{Rules, group_in, load_for, frame_load, window_load, window_flags, window_name, unless}
use Rattle.link_fields.specs.Basic.{u32, text, url, flags, optional}
use Rattle.link_fields.specs.Origins.{origin}
use Rattle.frame_grammar.specs.Parts.{load as load_field}
use Rattle.exchange_laws.specs.Fit.{IsFitLog}
use Rattle.exchange_laws.proofs.Fit.Parts.{some_fits, none_fits, if_some}
use Rattle.exchange_laws.proofs.Fit.Births.{born_fit, made_flags_fit}
use Rattle.exchange_laws.proofs.Fit.Homes.{home_fits}
use Rattle.exchange_laws.proofs.Fit.Origins.{IsNumbered, origin_fits, opaque_fits}
use Rattle.exchange_laws.proofs.Fit.Requests.{nothing_fits}

pub flags_of_few : (n : ℕ) → n < 256 → flags.Fits n
flags_of_few n few = let below : nat_lt n 256 ≡ true = grind (arith, nat_tests) in (omega arith, below)

pub union_fits : (a b : ℕ) → a < 256 → b < 256 → flags.Fits (union a b)
union_fits a b few small = flags_of_few (union a b) (or_lt 8 a b few small)

pub asker_origin : (rules : Rules) (log : List Entry) (asker : ℕ) → IsFitLog rules log → asker < (tree_of log).docs → origin.Fits (origin_of (tree_of log) asker)
asker_origin rules log asker f there = (born_fit log asker f.admitted f.fit f.short there).origin_fits

pub asker_home : (rules : Rules) (log : List Entry) (asker : ℕ) → IsFitLog rules log → asker < (tree_of log).docs → home_of (tree_of log) asker < 2 ^ 16
asker_home rules log asker f there = (born_fit log asker f.admitted f.fit f.short there).home

numbered_if_fits : (o : Origin) → origin.Fits o → IsNumbered o
numbered_if_fits (Tuple t) h = tt
numbered_if_fits (Opaque n) h =
    let same : h.1.0 ≡ n = cc in
    subst (λ (k : ℕ). k < 2 ^ 32) same h.1.1

pub page_numbered : (o : Option TupleParts) (asker : Origin) → IsNumbered asker → IsNumbered (unwrap_or (option_map Tuple o) asker)
page_numbered None asker h = h
page_numbered (Some t) asker h = tt

loaded_numbered : (sandboxed : Bool) (doc : ℕ) (asker : Origin) (page : List ℕ) → doc < 2 ^ 32 → IsNumbered asker → IsNumbered (loaded_origin sandboxed doc asker page)
loaded_numbered true doc asker page few h = few
loaded_numbered false doc asker page few h = page_numbered (page_tuple page) asker h

pub new_origin : (opaque : Bool) (doc : ℕ) (asker : Origin) → doc < 2 ^ 32 → origin.Fits asker → origin.Fits (if opaque then Opaque doc else asker)
new_origin true doc asker few h = opaque_fits doc few
new_origin false doc asker few h = h

-- LOADS

pub load_fits : (rules : Rules) (log : List Entry) (group fl doc asker : ℕ) (page : List ℕ) → IsFitLog rules log → asker < (tree_of log).docs → doc < 2 ^ 32 → url.Fits page
    → IsLoadInRange (load_for rules (tree_of log) group fl doc asker page) → load_field.Fits (load_for rules (tree_of log) group fl doc asker page)
load_fits rules log group fl doc asker page f there few u range =
    let l = load_for rules (tree_of log) group fl doc asker page in
    let o : Origin = l.origin in
    let fits : origin.Fits o = origin_fits o range.1 (loaded_numbered (has_origin fl) doc (origin_of (tree_of log) asker) page few (numbered_if_fits (origin_of (tree_of log) asker) (asker_origin rules log asker f there))) in
    ((few, (home_fits log rules.renderers rules.suffixes group _ f.admitted f.fit f.short f.some f.few, (fits, u))), refl)

if_loads : (b : Bool) (l : Load) → (IsLoadInRange l → load_field.Fits l) → IfSome (if b then None else Some l) IsLoadInRange → (optional load_field).Fits (if b then None else Some l)
if_loads true l fits range = none_fits load_field
if_loads false l fits range = some_fits load_field l (fits range)

pub few_docs : (log : List Entry) → length log < 2 ^ 30 → (tree_of log).docs + 1 < 2 ^ 32
few_docs log short = omega (arith, (few_of log).docs)

pub frame_load_fits : (rules : Rules) (log : List Entry) (asker fl : ℕ) (page : Option (List ℕ)) → IsFitLog rules log → asker < (tree_of log).docs → (optional url).Fits page
    → IfSome (frame_load rules (tree_of log) asker fl page) IsLoadInRange → (optional load_field).Fits (frame_load rules (tree_of log) asker fl page)
frame_load_fits rules log asker fl None f there u range = none_fits load_field
frame_load_fits rules log asker fl (Some page) f there u range =
    let t = tree_of log in
    let group : ℕ = group_in t (nav_of t asker) in
    if_loads (is_none (page_origin page)) (load_for rules t group fl (t.docs + 1) asker page)
    (λ r. load_fits rules log group fl (t.docs + 1) asker page f there (few_docs log f.short) (if_some url page u) r) range

pub window_load_fits : (rules : Rules) (log : List Entry) (asker group fl : ℕ) (page : Option (List ℕ)) → IsFitLog rules log → asker < (tree_of log).docs → (optional url).Fits page
    → IfSome (window_load rules (tree_of log) asker group fl page) IsLoadInRange → (optional load_field).Fits (window_load rules (tree_of log) asker group fl page)
window_load_fits rules log asker group fl None f there u range = none_fits load_field
window_load_fits rules log asker group fl (Some page) f there u range =
    let t = tree_of log in
    some_fits load_field (load_for rules t group fl (t.docs + 1) asker page) (load_fits rules log group fl (t.docs + 1) asker page f there (few_docs log f.short) (if_some url page u) range)

-- WINDOWS

if_below : (b : Bool) (n : ℕ) → n < 256 → flags.Fits (if b then n else 0)
if_below true n few = flags_of_few n few
if_below false n few = flags_of_few 0 (omega arith)

pub window_flags_fit : (rules : Rules) (log : List Entry) (n : ℕ) → IsFitLog rules log → flags.Fits (window_flags (tree_of log) n)
window_flags_fit rules log n f = if_below (has_propagates (flags_in (tree_of log) n)) (flags_in (tree_of log) n) (made_flags_fit log n f.fit)

if_named : (b : Bool) (name : List ℕ) → text.Fits name → text.Fits (if b then [] else name)
if_named true name h = nothing_fits
if_named false name h = h

pub window_name_fits : (name : List ℕ) → text.Fits name → text.Fits (window_name name)
window_name_fits name h = if_named (is_word (codes "_blank") name) name h

pub unless_fits : (b : Bool) (n : ℕ) → n < 2 ^ 32 → (optional u32).Fits (unless b n)
unless_fits true n few = none_fits u32
unless_fits false n few = some_fits u32 n few
