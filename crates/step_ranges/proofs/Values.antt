-- Values at hand stay so on a longer log; so do those that registers and properties hold. Nothing else is at hand at first, and a
-- message writes values at hand.
use Rattle.std.proofs.Common.{◌≡◌, ℕ, ◌<◌, List, [], ◌∷◌, ◌++◌, length, codes, Option, Some, None, Bool, true, false, refl, sym, subst, arith}
use Rattle.std.specs.Prelude.{◌==◌, ◌&&◌, bytes_eq, if◌then◌else◌}
use Rattle.std.specs.Option.{option_map, option_map_or}
use Rattle.window_props.specs.declared.value.Method.{Method}
use Rattle.window_props.specs.declared.value.Value.{Value}
use Rattle.window_props.specs.declared.value.Value.TheVariants as value
use Rattle.window_props.specs.declared.descriptor.Body.{Body}
use Rattle.window_props.specs.declared.descriptor.Body.TheVariants as body
use Rattle.window_props.specs.declared.descriptor.Descriptor.{Descriptor}
use Rattle.window_props.specs.declared.platform.Object.{Object}
use Rattle.window_props.specs.declared.platform.Platform.{Platform}
use Rattle.window_props.specs.Platform.{named, method_of, role_of, has_setter, is_writable, made_by_platform, platform}
use Rattle.window_props.specs.History.{Store, store_of}
use Rattle.origin_core.specs.Origin.{origin_text}
use Rattle.tree_log.specs.declared.entry.Entry.{Entry}
use Rattle.tree_log.specs.declared.entry.What.{What}
use Rattle.tree_log.specs.declared.entry.What.TheVariants.{Post, Fire}
use Rattle.tree_log.specs.Log.{entry_at}
use Rattle.tree_log.specs.Tree.{Tree, tree_of, tree_after, tree_of_step}
use Rattle.tree_log.specs.Admits.{has, admits_what, AreAdmitted}
use Rattle.tree_log.proofs.Admitted.{both, lt_of, what_admitted}
use Rattle.object_access.specs.Registers.{unset, written, message_written, task_written}
use Rattle.object_access.specs.StepAnswer.{first_stores}
use Rattle.object_access.specs.Values.{text}
use Rattle.agent_laws.proofs.Groups.Well.{more_docs, more_navs}
use Rattle.exchange_laws.specs.Fit.{AreFit}
use Rattle.exchange_laws.proofs.Fit.Parts.{WhatFits, parts_fit}
use Rattle.step_ranges.specs.Ranges.{is_at_hand, AreAtHand, is_body_at_hand, is_property_at_hand, StoresAtHand}
use Rattle.step_ranges.proofs.Texts.{below, text_within, undefined_within}
use Rattle.step_ranges.proofs.Spelled.{post_short}

-- LONGER LOGS

at_hand_after : (t : Tree) (e : Entry) (v : Value) → is_at_hand t v ≡ true → is_at_hand (tree_after t e) v ≡ true
at_hand_after t e (value.Window n) h = let lt : n < t.navs = lt_of n t.navs h in below n (tree_after t e).navs (omega (arith, more_navs t e))
at_hand_after t e (value.Location d) h = let lt : d < t.docs = lt_of d t.docs h in below d (tree_after t e).docs (omega (arith, more_docs t e))
at_hand_after t e (value.Plain given) h = h
at_hand_after t e v h = refl

pub at_hand_later : (more log : List Entry) (v : Value) → is_at_hand (tree_of log) v ≡ true → is_at_hand (tree_of (more ++ log)) v ≡ true
at_hand_later [] log v h = h
at_hand_later (e ∷ older) log v h = subst (λ (t : Tree). is_at_hand t v ≡ true) (sym (tree_of_step e (older ++ log))) (at_hand_after (tree_of (older ++ log)) e v (at_hand_later older log v h))

body_later : (more log : List Entry) (b : Body) → is_body_at_hand (tree_of log) b ≡ true → is_body_at_hand (tree_of (more ++ log)) b ≡ true
body_later more log (body.Value v writable) h = at_hand_later more log v h
body_later more log (body.Accessor get set) h = refl

property_later : (more log : List Entry) (p : Option Descriptor) → is_property_at_hand (tree_of log) p ≡ true → is_property_at_hand (tree_of (more ++ log)) p ≡ true
property_later more log None h = refl
property_later more log (Some p) h = body_later more log p.body h

pub stores_later : (more log : List Entry) (stores : Object → Store) → StoresAtHand (tree_of log) stores → StoresAtHand (tree_of (more ++ log)) stores
stores_later more log stores h = λ o key. property_later more log ((stores o).at key) (h o key)

-- AT THE START

pub unset_at_hand : (t : Tree) → AreAtHand t unset
unset_at_hand t = λ d name. undefined_within

made_at_hand : (t : Tree) (o : Object) (name : Platform) (m : Option Method)
    → is_body_at_hand t (elim m as (λ _. Body) [ Some m ↦ body.Value (value.Function m o) (is_writable o) | None ↦ body.Accessor true (has_setter (role_of o name)) ]) ≡ true
made_at_hand t o _ None = refl
made_at_hand t o _ (Some m) = refl

named_at_hand : (t : Tree) (o : Object) (name : Option Platform) → is_property_at_hand t (option_map (made_by_platform o) name) ≡ true
unfolding made_by_platform
named_at_hand t o None = refl
named_at_hand t o (Some name) = made_at_hand t o name (method_of name)

pub first_at_hand : (t : Tree) → StoresAtHand t first_stores
unfolding store_of platform
first_at_hand t = λ o key. named_at_hand t o (named o key)

-- WHAT IS WRITTEN

written_at_hand : (t : Tree) (d : ℕ) (name : List ℕ) (v : Value) (registers : ℕ → List ℕ → Value) → is_at_hand t v ≡ true → AreAtHand t registers → AreAtHand t (written d name v registers)
unfolding written
written_at_hand t d name v registers h held = λ e other. by_test ((e == d) && bytes_eq other name) e other
  where
    by_test : (b : Bool) (e : ℕ) (other : List ℕ) → is_at_hand t (if b then v else registers e other) ≡ true
    by_test true e other = h
    by_test false e other = held e other

-- MESSAGES

-- the window that a message came from is there
abbrev HasSource : Tree → What → Type 0
HasSource t (Post to from o target given) = from < t.navs
HasSource t w = Unit {0}

message_at_hand : (t : Tree) (d : ℕ) (w : What) (registers : ℕ → List ℕ → Value) → HasSource t w → WhatFits w → AreAtHand t registers → AreAtHand t (message_written d w registers)
message_at_hand t d (Post to from o target given) registers there fits held =
    let short = post_short to from o target given fits in
    let source = written_at_hand t d (codes "source") (value.Window from) registers (below from t.navs there) held in
    let sender = written_at_hand t d (codes "origin") (text (origin_text o)) (written d (codes "source") (value.Window from) registers) (text_within (origin_text o) short.origin_is) source in
    written_at_hand t d (codes "data") (value.Plain given) (written d (codes "origin") (text (origin_text o)) (written d (codes "source") (value.Window from) registers)) short.body_is sender
message_at_hand t d w registers there fits held = held

source_admitted : (t : Tree) (by actor : Option ℕ) (w : What) → admits_what t by actor w ≡ true → HasSource t w
source_admitted t by actor (Post to from o target given) h = lt_of from t.navs (both _ (has t.navs from) h).1
source_admitted t by actor w h = tt

source_after : (t : Tree) (e : Entry) (w : What) → HasSource t w → HasSource (tree_after t e) w
source_after t e (Post to from o target given) there = let lt : from < t.navs = there in omega (arith, more_navs t e)
source_after t e w there = tt

-- an entry that a log has, if it has one at that place
abbrev IsSoundIfAny : Tree → Option Entry → Type 0
IsSoundIfAny t None = Unit {0}
IsSoundIfAny t (Some e) = HasSource t e.what × WhatFits e.what

sound_after : (t : Tree) (e : Entry) (o : Option Entry) → IsSoundIfAny t o → IsSoundIfAny (tree_after t e) o
sound_after t e None h = tt
sound_after t e (Some x) h = (source_after t e x.what h.0, h.1)

sound_at : (log : List Entry) (place : ℕ) → AreAdmitted log → AreFit log → IsSoundIfAny (tree_of log) (entry_at log place)
unfolding entry_at
sound_at [] place all fit = tt
sound_at (e ∷ older) place all fit =
    subst (λ (t : Tree). IsSoundIfAny t (if length older == place then Some e else entry_at older place)) (sym (tree_of_step e older)) (by_test (length older == place) (sound_at older place all.1 fit.1))
  where
    by_test : (b : Bool) → IsSoundIfAny (tree_of older) (entry_at older place) → IsSoundIfAny (tree_after (tree_of older) e) (if b then Some e else entry_at older place)
    by_test true before =
        (source_after (tree_of older) e e.what (source_admitted (tree_of older) e.by e.actor e.what (what_admitted (tree_of older) e all.0)), (parts_fit e fit.0).what)
    by_test false before = sound_after (tree_of older) e (entry_at older place) before

-- what a task writes
pub task_at_hand : (log : List Entry) (what : What) (registers : ℕ → List ℕ → Value) → AreAdmitted log → AreFit log → AreAtHand (tree_of log) registers → AreAtHand (tree_of log) (task_written log what registers)
task_at_hand log (Fire doc post) registers all fit held = by_entry (entry_at log post) (sound_at log post all fit)
  where
    by_entry : (o : Option Entry) → IsSoundIfAny (tree_of log) o → AreAtHand (tree_of log) (option_map_or (λ (e : Entry). message_written doc e.what registers) o registers)
    by_entry None h = held
    by_entry (Some e) h = message_at_hand (tree_of log) doc e.what registers h.0 h.1 held
task_at_hand log what registers all fit held = held
