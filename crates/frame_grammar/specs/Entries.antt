-- Entries: a tag, the renderer and the document that acted, and the fields of what happened.
use Rattle.std.specs.Prelude.{ℕ, nat_le, ◌&&◌, List, Bool, Option}
use Rattle.plain_data.specs.declared.data.Data.{Data}
use Rattle.origin_core.specs.declared.origin.Origin.{Origin}
use Rattle.tree_log.specs.declared.entry.Cause.{Cause}
use Rattle.tree_log.specs.declared.entry.Entry.{Entry}
use Rattle.tree_log.specs.declared.entry.Load.{Load}
use Rattle.tree_log.specs.declared.entry.Target.{Target}
use Rattle.tree_log.specs.declared.entry.What.{What}
use Rattle.tree_log.specs.declared.entry.What.TheVariants as whats
use Rattle.link_fields.specs.declared.fault.Flaw.TheVariants.{Range}
use Rattle.link_fields.specs.Field.{Field, ◌⊗◌, nothing, never, only, mapped, keyed}
use Rattle.link_fields.specs.Kinds.{Kind, kind, spelled_as, row_of, row_or}
use Rattle.link_fields.specs.Basic.{u8, u16, u32, text, url, flags, optional}
use Rattle.link_fields.specs.Origins.{origin, any_host}
use Rattle.link_fields.specs.Skipping.{data_field}
use Rattle.frame_grammar.specs.Parts.{target, load, cause}

-- ---- the kinds of entries: the tag of each, its fields, and what happened

abbrev pub open_kind : Kind (ℕ × (ℕ × (ℕ × (ℕ × (Origin × (List ℕ × (Option ℕ × (ℕ × (Option ℕ × Option Load))))))))) What
open_kind =
    kind 1 (u32 ⊗ u32 ⊗ u32 ⊗ u16 ⊗ origin ⊗ text ⊗ optional u32 ⊗ flags ⊗ optional u32 ⊗ optional load)
    (λ (nav, (doc, (group, (home, (o, (name, (opener, (fl, (navigator, l))))))))). whats.Open nav doc group home o name opener fl navigator l)

abbrev pub frame_kind : Kind (ℕ × (ℕ × (ℕ × (Origin × (List ℕ × (ℕ × Option Load)))))) What
frame_kind =
    kind 2 (u32 ⊗ u32 ⊗ u16 ⊗ origin ⊗ text ⊗ flags ⊗ optional load)
    (λ (nav, (doc, (home, (o, (name, (fl, l)))))). whats.Frame nav doc home o name fl l)

abbrev pub drop_kind : Kind ℕ What
drop_kind = kind 3 u32 (λ nav. whats.Drop nav)

abbrev pub name_kind : Kind (ℕ × List ℕ) What
name_kind = kind 4 (u32 ⊗ text) (λ (nav, name). whats.Name nav name)

abbrev pub begin_kind : Kind (ℕ × Load) What
begin_kind = kind 5 (u32 ⊗ load) (λ (nav, l). whats.Begin nav l)

abbrev pub commit_kind : Kind (ℕ × (ℕ × ℕ)) What
commit_kind = kind 6 (u32 ⊗ u32 ⊗ u32) (λ (nav, (doc, begin)). whats.Commit nav doc begin)

abbrev pub fragment_kind : Kind (ℕ × (ℕ × List ℕ)) What
fragment_kind = kind 7 (u32 ⊗ u32 ⊗ url) (λ (nav, (doc, u)). whats.Fragment nav doc u)

abbrev pub opener_kind : Kind (ℕ × Option ℕ) What
opener_kind = kind 8 (u32 ⊗ optional u32) (λ (nav, to). whats.Opener nav to)

abbrev pub post_kind : Kind (ℕ × (ℕ × (Origin × (Target × Data)))) What
post_kind = kind 9 (u32 ⊗ u32 ⊗ origin ⊗ target ⊗ data_field) (λ (to, (from, (o, (t, body)))). whats.Post to from o t body)

abbrev pub fire_kind : Kind (ℕ × ℕ) What
fire_kind = kind 10 (u32 ⊗ u32) (λ (doc, post). whats.Fire doc post)

abbrev pub lapse_kind : Kind (ℕ × (ℕ × Cause)) What
lapse_kind = kind 11 (u32 ⊗ u32 ⊗ cause) (λ (doc, (post, c)). whats.Lapse doc post c)

abbrev pub closing_kind : Kind ℕ What
closing_kind = kind 12 u32 (λ nav. whats.Closing nav)

abbrev pub gone_kind : Kind ℕ What
gone_kind = kind 13 u32 (λ nav. whats.Gone nav)

abbrev pub lost_kind : Kind ℕ What
lost_kind = kind 14 u16 (λ renderer. whats.Lost renderer)

abbrev pub sync_kind : Kind (Unit {0}) What
sync_kind = kind 15 (nothing tt) (λ _. whats.Sync)

abbrev pub hidden_kind : Kind (Unit {0}) What
hidden_kind = kind 16 (nothing tt) (λ _. whats.Hidden)

abbrev pub domain_kind : Kind (ℕ × List ℕ) What
domain_kind = kind 17 (u32 ⊗ any_host) (λ (doc, domain). whats.Domain doc domain)

-- the tag of what happened, and the spelling of its fields
abbrev pub what_spelled : What → ℕ × List ℕ
what_spelled (whats.Open nav doc group home o name opener fl navigator l) = spelled_as open_kind (nav, (doc, (group, (home, (o, (name, (opener, (fl, (navigator, l)))))))))
what_spelled (whats.Frame nav doc home o name fl l) = spelled_as frame_kind (nav, (doc, (home, (o, (name, (fl, l))))))
what_spelled (whats.Drop nav) = spelled_as drop_kind nav
what_spelled (whats.Name nav name) = spelled_as name_kind (nav, name)
what_spelled (whats.Begin nav l) = spelled_as begin_kind (nav, l)
what_spelled (whats.Commit nav doc begin) = spelled_as commit_kind (nav, (doc, begin))
what_spelled (whats.Fragment nav doc u) = spelled_as fragment_kind (nav, (doc, u))
what_spelled (whats.Opener nav to) = spelled_as opener_kind (nav, to)
what_spelled (whats.Post to from o t body) = spelled_as post_kind (to, (from, (o, (t, body))))
what_spelled (whats.Fire doc post) = spelled_as fire_kind (doc, post)
what_spelled (whats.Lapse doc post c) = spelled_as lapse_kind (doc, (post, c))
what_spelled (whats.Closing nav) = spelled_as closing_kind nav
what_spelled (whats.Gone nav) = spelled_as gone_kind nav
what_spelled (whats.Lost renderer) = spelled_as lost_kind renderer
what_spelled whats.Sync = spelled_as sync_kind tt
what_spelled whats.Hidden = spelled_as hidden_kind tt
what_spelled (whats.Domain doc domain) = spelled_as domain_kind (doc, domain)

abbrev pub what_tag : What → ℕ
what_tag w = (what_spelled w).0

abbrev pub what_body : What → List ℕ
what_body w = (what_spelled w).1

abbrev pub is_what_tag : ℕ → Bool
is_what_tag tag = nat_le 1 tag && nat_le tag 17

-- what happened, of one kind
abbrev pub what_of : {A : Type 0} → Kind A What → Field What
what_of k = row_of what_spelled k

-- what happened, behind a tag
abbrev pub what_row : ℕ → Field What
what_row tag =
    row_or what_spelled tag open_kind
    (row_or what_spelled tag frame_kind
    (row_or what_spelled tag drop_kind
    (row_or what_spelled tag name_kind
    (row_or what_spelled tag begin_kind
    (row_or what_spelled tag commit_kind
    (row_or what_spelled tag fragment_kind
    (row_or what_spelled tag opener_kind
    (row_or what_spelled tag post_kind
    (row_or what_spelled tag fire_kind
    (row_or what_spelled tag lapse_kind
    (row_or what_spelled tag closing_kind
    (row_or what_spelled tag gone_kind
    (row_or what_spelled tag lost_kind
    (row_or what_spelled tag sync_kind
    (row_or what_spelled tag hidden_kind
    (row_or what_spelled tag domain_kind
    (never Range)))))))))))))))))

-- an entry behind its tag
abbrev pub entry_rest : ℕ → Field Entry
entry_rest tag =
    mapped (λ x. record { by = x.0; actor = x.1.0; what = x.1.1 }) (λ e. (e.by, (e.actor, e.what)))
    (optional u16 ⊗ optional u32 ⊗ what_row tag)

unfoldable pub entry : Field Entry
entry = keyed (λ e. what_tag e.what) (only Range is_what_tag u8) entry_rest
