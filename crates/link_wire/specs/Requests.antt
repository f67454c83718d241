-- Requests: the fields of each kind, and the frame of each request.
use Rattle.std.specs.Prelude.{◌≤◌, ℕ, List, length, Bool, Option}
use Rattle.plain_data.specs.declared.data.Data.{Data}
use Rattle.link_fields.specs.declared.fault.Flaw.TheVariants.{Range}
use Rattle.link_fields.specs.Field.{Field, ◌⊗◌, nothing, never}
use Rattle.link_fields.specs.Kinds.{Kind, kind, spelled_as, row_of, row_or}
use Rattle.link_fields.specs.Basic.{u32, text, url, flags, truth, optional}
use Rattle.tree_log.specs.declared.entry.Target.{Target}
use Rattle.link_fields.specs.Skipping.{data_field}
use Rattle.frame_grammar.specs.Parts.{target}
use Rattle.link_wire.specs.Bad.{Decoded}
use Rattle.frame_grammar.specs.Cut.{most_body}
use Rattle.link_wire.specs.Frames.{is_kind, frame, frame_at}
use Rattle.link_wire.specs.declared.frame.Side.TheVariants as sides
use Rattle.agent_terms.specs.declared.request.Request.{Request}
use Rattle.agent_terms.specs.declared.request.Request.TheVariants as requests

-- ---- the kinds: the number of each, its fields, and the request

abbrev pub next_kind : Kind (Unit {0}) Request
next_kind = kind 1 (nothing tt) (λ _. requests.Next)

abbrev pub sync_kind : Kind ℕ Request
sync_kind = kind 2 u32 (λ asker. requests.Sync asker)

abbrev pub frame_kind : Kind (ℕ × (List ℕ × (ℕ × Option (List ℕ)))) Request
frame_kind = kind 3 (u32 ⊗ text ⊗ flags ⊗ optional url) (λ (asker, (name, (fl, u))). requests.Frame asker name fl u)

abbrev pub drop_kind : Kind (ℕ × ℕ) Request
drop_kind = kind 4 (u32 ⊗ u32) (λ (asker, nav). requests.Drop asker nav)

abbrev pub open_kind : Kind (ℕ × (Option (List ℕ) × (List ℕ × (Bool × Bool)))) Request
open_kind =
    kind 5 (u32 ⊗ optional url ⊗ text ⊗ truth ⊗ truth)
    (λ (asker, (u, (t, (noopener, user)))). requests.Open asker u t noopener user)

abbrev pub link_kind : Kind (ℕ × (List ℕ × (List ℕ × (Bool × Bool)))) Request
link_kind =
    kind 6 (u32 ⊗ url ⊗ text ⊗ truth ⊗ truth)
    (λ (asker, (u, (t, (noopener, user)))). requests.Link asker u t noopener user)

abbrev pub go_kind : Kind (ℕ × (ℕ × (List ℕ × Bool))) Request
go_kind = kind 7 (u32 ⊗ u32 ⊗ url ⊗ truth) (λ (asker, (doc, (u, user))). requests.Go asker doc u user)

abbrev pub name_kind : Kind (ℕ × (ℕ × List ℕ)) Request
name_kind = kind 8 (u32 ⊗ u32 ⊗ text) (λ (asker, (doc, name)). requests.Name asker doc name)

abbrev pub disown_kind : Kind (ℕ × ℕ) Request
disown_kind = kind 9 (u32 ⊗ u32) (λ (asker, doc). requests.Disown asker doc)

abbrev pub close_kind : Kind (ℕ × (ℕ × Bool)) Request
close_kind = kind 10 (u32 ⊗ u32 ⊗ truth) (λ (asker, (doc, user)). requests.Close asker doc user)

abbrev pub post_kind : Kind (ℕ × (ℕ × (Target × Data))) Request
post_kind = kind 11 (u32 ⊗ u32 ⊗ target ⊗ data_field) (λ (asker, (doc, (t, d))). requests.Post asker doc t d)

abbrev pub domain_kind : Kind (ℕ × List ℕ) Request
domain_kind = kind 12 (u32 ⊗ text) (λ (asker, value). requests.Domain asker value)

abbrev pub more_kind : Kind (Unit {0}) Request
more_kind = kind 13 (nothing tt) (λ _. requests.More)

-- the kind of a request, and the spelling of its fields
abbrev pub request_spelled : Request → ℕ × List ℕ
request_spelled requests.Next = spelled_as next_kind tt
request_spelled (requests.Sync asker) = spelled_as sync_kind asker
request_spelled (requests.Frame asker name fl u) = spelled_as frame_kind (asker, (name, (fl, u)))
request_spelled (requests.Drop asker nav) = spelled_as drop_kind (asker, nav)
request_spelled (requests.Open asker u t noopener user) = spelled_as open_kind (asker, (u, (t, (noopener, user))))
request_spelled (requests.Link asker u t noopener user) = spelled_as link_kind (asker, (u, (t, (noopener, user))))
request_spelled (requests.Go asker doc u user) = spelled_as go_kind (asker, (doc, (u, user)))
request_spelled (requests.Name asker doc name) = spelled_as name_kind (asker, (doc, name))
request_spelled (requests.Disown asker doc) = spelled_as disown_kind (asker, doc)
request_spelled (requests.Close asker doc user) = spelled_as close_kind (asker, (doc, user))
request_spelled (requests.Post asker doc t d) = spelled_as post_kind (asker, (doc, (t, d)))
request_spelled (requests.Domain asker value) = spelled_as domain_kind (asker, value)
request_spelled requests.More = spelled_as more_kind tt

abbrev pub kind_of : Request → ℕ
kind_of r = (request_spelled r).0

abbrev pub request_body : Request → List ℕ
request_body r = (request_spelled r).1

-- the requests of one kind
abbrev pub request_of : {A : Type 0} → Kind A Request → Field Request
request_of k = row_of request_spelled k

-- the request in a frame of a kind
abbrev pub request_row : ℕ → Field Request
request_row tag =
    row_or request_spelled tag next_kind
    (row_or request_spelled tag sync_kind
    (row_or request_spelled tag frame_kind
    (row_or request_spelled tag drop_kind
    (row_or request_spelled tag open_kind
    (row_or request_spelled tag link_kind
    (row_or request_spelled tag go_kind
    (row_or request_spelled tag name_kind
    (row_or request_spelled tag disown_kind
    (row_or request_spelled tag close_kind
    (row_or request_spelled tag post_kind
    (row_or request_spelled tag domain_kind
    (row_or request_spelled tag more_kind
    (never Range)))))))))))))

-- ---- frames

abbrev pub request_frame : Request → List ℕ
request_frame r = frame (kind_of r) (request_body r)

-- the request is in range, and its body within the limit
abbrev pub IsRequest : Request → Type 0
IsRequest r = (request_row (kind_of r)).Fits r × (length (request_body r) ≤ most_body)

-- the request that the bytes spell, or the first fault
abbrev pub request_read : List ℕ → Decoded Request
request_read bytes = frame_at (is_kind sides.Request) most_body request_row bytes
