-- Accesses on a blanked log.
use Rattle.std.proofs.Common.{◌≡◌, ℕ, List, codes, Option, Some, None, Bool, true, false, refl, ap, ◌∙◌, if◌then◌else◌}
use Rattle.std.specs.Prelude.{Result, Ok, Err}
use Rattle.origin_core.specs.Origin.{page_origin}
use Rattle.origin_core.specs.Page.{read_page}
use Rattle.window_props.specs.declared.key.Key.{Key}
use Rattle.window_props.specs.declared.value.Value.{Value}
use Rattle.window_props.specs.declared.platform.Object.TheVariants as object
use Rattle.window_props.specs.declared.platform.Platform.{Platform}
use Rattle.window_props.specs.declared.platform.Platform.TheVariants.{Location, Href, Origin, Replace}
use Rattle.window_props.specs.Platform.{named, key_of}
use Rattle.window_props.specs.Keys.{same_key}
use Rattle.window_props.specs.Cross.{made_for_others, cross_named, listed, is_fallback}
use Rattle.window_props.specs.History.{Store}
use Rattle.window_props.specs.declared.descriptor.Body.TheVariants as body
use Rattle.window_props.specs.declared.descriptor.Descriptor.{Descriptor}
use Rattle.std.specs.Option.{option_or, option_map}
use Rattle.agent_terms.specs.declared.outcome.Rule.{Rule}
use Rattle.agent_terms.specs.declared.outcome.Rule.TheVariants.{S1, S3}
use Rattle.tree_log.specs.declared.entry.Entry.{Entry}
use Rattle.tree_log.specs.Tree.{Tree, tree_of, is_active, origin_of, same_domain}
use Rattle.tree_log.specs.Urls.{url_of}
use Rattle.tree_log.specs.Blanking.{blanked}
use Rattle.tree_log.proofs.BlankLaws.{tree_of-blanked, url_of-blanked}
use Rattle.agent_terms.specs.declared.outcome.Outcome.{Outcome}
use Rattle.agent_terms.specs.declared.outcome.Outcome.TheVariants as outcome
use Rattle.object_access.specs.Access.{got, foreign_property, or_refused, fallback_property, constant}
use Rattle.object_access.specs.Values.{text_of, text, undefined}
use Rattle.object_access.specs.Going.{go, gone_to, or_else_outcome, set_href}
use Rattle.object_access.specs.WindowAccess.{window_of, window_set, set_by, got_by}
use Rattle.object_access.specs.LocationAccess.{location, location_set, location_value, location_url, text_of_origin}

-- functions that agree everywhere
pub same_everywhere : {A B : Type 0} (f g : A → B) → ((x : A) → f x ≡ g x) → f ≡ g
same_everywhere f g h = λ i x. h x i

-- GOING

pub go_same : (t : Tree) (urls others : ℕ → List ℕ) (asker doc : ℕ) (text : List ℕ) → urls asker ≡ others asker → go t urls asker doc text ≡ go t others asker doc text
unfolding go
go_same t urls others asker doc text e = ap (λ (u : List ℕ). if is_active t doc then Some (gone_to doc (read_page (Some u) text)) else None) e

pub text_same : (o : Option (List ℕ)) (f g : List ℕ → Outcome) → ((x : List ℕ) → f x ≡ g x) → elim o as (λ _. Outcome) [ None ↦ outcome.TypeFault | Some t ↦ f t ] ≡ elim o as (λ _. Outcome) [ None ↦ outcome.TypeFault | Some t ↦ g t ]
text_same None f g h = refl
text_same (Some t) f g h = h t

set_href_same : (t : Tree) (urls others : ℕ → List ℕ) (asker doc : ℕ) (v : Value) → urls asker ≡ others asker → set_href t urls asker doc v ≡ set_href t others asker doc v
set_href_same t urls others asker doc v e = text_same (text_of v) _ _ (λ text. ap (or_else_outcome (outcome.Truth true)) (go_same t urls others asker doc text e))

-- WINDOWS

window_set_same : (t : Tree) (urls others : ℕ → List ℕ) (asker doc : ℕ) (p : Platform) (v : Value) → urls asker ≡ others asker → window_set t urls asker doc p v ≡ window_set t others asker doc p v
unfolding window_set
window_set_same t urls others asker doc Location v e = set_href_same t urls others asker doc v e
window_set_same t urls others asker doc p v e = refl

pub set_by_same : (o : Option Platform) (f g : Platform → Outcome) → ((p : Platform) → f p ≡ g p) → set_by o f ≡ set_by o g
set_by_same None f g h = refl
set_by_same (Some p) f g h = h p

got_by_same : (o : Option Platform) (f g : Platform → Value) → ((p : Platform) → f p ≡ g p) → got_by o f ≡ got_by o g
got_by_same None f g h = refl
got_by_same (Some p) f g h = h p

-- a window is met by the URL of the asker alone
pub window_same : (t : Tree) (urls others : ℕ → List ℕ) (asker n d : ℕ) → urls asker ≡ others asker → window_of t urls asker n d ≡ window_of t others asker n d
unfolding window_of
window_same t urls others asker n d e =
    ap (λ (f : Key → Value → Outcome). record (window_of t urls asker n d) { setter = f })
    (same_everywhere _ _ (λ key. same_everywhere _ _ (λ v. set_by_same (named (object.Window d) key) _ _ (λ p. window_set_same t urls others asker d p v e))))

-- LOCATIONS

pub location_set_same : (t : Tree) (urls others : ℕ → List ℕ) (asker doc : ℕ) (p : Platform) (v : Value) → urls asker ≡ others asker → location_set t urls asker doc p v ≡ location_set t others asker doc p v
unfolding location_set
location_set_same t urls others asker doc Href v e = set_href_same t urls others asker doc v e
location_set_same t urls others asker doc p v e = refl

location_url_same : (t : Tree) (urls others : ℕ → List ℕ) (d : ℕ) → urls d ≡ others d → location_url t urls d ≡ location_url t others d
location_url_same t urls others d e = ap (λ (u : List ℕ). if is_active t d then u else codes "about:blank") e

location_value_same : (t : Tree) (urls others : ℕ → List ℕ) (d : ℕ) (p : Platform) → urls d ≡ others d → location_value t urls d p ≡ location_value t others d p
unfolding location_value
location_value_same t urls others d Href e = ap (λ (u : List ℕ). text u) (location_url_same t urls others d e)
location_value_same t urls others d Origin e = ap (λ (u : List ℕ). text (text_of_origin (page_origin u))) (location_url_same t urls others d e)
location_value_same t urls others d p e = refl

-- a Location is met by the URLs of the asker and of its own document
pub location_same : (t : Tree) (urls others : ℕ → List ℕ) (asker d : ℕ) → urls asker ≡ others asker → urls d ≡ others d → location t urls asker d ≡ location t others asker d
unfolding location
location_same t urls others asker d e own =
    ap (λ (f : Key → Value). record (location t urls asker d) { getter = f }) (same_everywhere _ _ (λ key. got_by_same (named (object.Location d) key) _ _ (λ p. location_value_same t urls others d p own)))
    ∙ ap (λ (f : Key → Value → Outcome). record (location t others asker d) { setter = f })
    (same_everywhere _ _ (λ key. same_everywhere _ _ (λ v. set_by_same (named (object.Location d) key) _ _ (λ p. location_set_same t urls others asker d p v e))))

-- A FOREIGN LOCATION

-- what a get gives, by what the getter gives
abbrev got_with : Value → Result Descriptor Rule → Outcome
got_with v (Err rule) = outcome.Security rule
got_with v (Ok d) = elim d.body [ body.Value w _ ↦ outcome.Value w | body.Accessor get _ ↦ if get then outcome.Value v else outcome.Security S3 ]

-- the properties that a foreign Location shows have no getter
no_getter : (v w : Value) (d : ℕ) (key : Key) (p q : Bool)
    → got_with v (or_refused S1 (option_or (option_map (made_for_others (object.Location d)) (if p then Some Href else if q then Some Replace else None)) (option_or None (fallback_property key))))
    ≡ got_with w (or_refused S1 (option_or (option_map (made_for_others (object.Location d)) (if p then Some Href else if q then Some Replace else None)) (option_or None (fallback_property key))))
unfolding made_for_others
no_getter v w d key true q = refl
no_getter v w d key false true = refl
no_getter v w d key false false = fallback (is_fallback key)
  where
    fallback : (b : Bool) → got_with v (or_refused S1 (if b then Some (constant undefined false) else None)) ≡ got_with w (or_refused S1 (if b then Some (constant undefined false) else None))
    fallback true = refl
    fallback false = refl

-- a get on a foreign Location tells nothing of its document's URL
pub foreign_got_same : (t : Tree) (urls others : ℕ → List ℕ) (asker d : ℕ) (props : Store) (key : Key) → same_domain t asker d ≡ false
    → got (location t urls asker d) props key ≡ got (location t others asker d) props key
unfolding got location foreign_property listed cross_named
foreign_got_same t urls others asker d props key foreign =
    rw foreign (no_getter (got_by (named (object.Location d) key) (location_value t urls d)) (got_by (named (object.Location d) key) (location_value t others d)) d key (same_key (key_of Href) key) (same_key (key_of Replace) key))

-- ON A BLANKED LOG

pub window-blanked : (kept : ℕ → Bool) (log : List Entry) (asker n d : ℕ) → kept asker ≡ true
    → window_of (tree_of (blanked kept log)) (url_of (blanked kept log)) asker n d ≡ window_of (tree_of log) (url_of log) asker n d
window-blanked kept log asker n d mine = rw (tree_of-blanked kept log) (window_same (tree_of log) (url_of (blanked kept log)) (url_of log) asker n d (url_of-blanked kept log asker mine))

pub location-blanked : (kept : ℕ → Bool) (log : List Entry) (asker d : ℕ) → kept asker ≡ true → kept d ≡ true
    → location (tree_of (blanked kept log)) (url_of (blanked kept log)) asker d ≡ location (tree_of log) (url_of log) asker d
location-blanked kept log asker d mine its =
    rw (tree_of-blanked kept log) (location_same (tree_of log) (url_of (blanked kept log)) (url_of log) asker d (url_of-blanked kept log asker mine) (url_of-blanked kept log d its))

pub foreign_got-blanked : (kept : ℕ → Bool) (log : List Entry) (asker d : ℕ) (props : Store) (key : Key) → same_domain (tree_of log) asker d ≡ false
    → got (location (tree_of (blanked kept log)) (url_of (blanked kept log)) asker d) props key ≡ got (location (tree_of log) (url_of log) asker d) props key
foreign_got-blanked kept log asker d props key foreign = rw (tree_of-blanked kept log) (foreign_got_same (tree_of log) (url_of (blanked kept log)) (url_of log) asker d props key foreign)
