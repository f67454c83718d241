-- Requests whose parts frames can spell; and data whose texts are UTF-8, a level at a time.
use Rattle.std.specs.Prelude.{ℕ, List, Bool, ◌&&◌}
use Rattle.std.specs.List.{list_all}
use Rattle.std.specs.Str.{is_utf8}
use Rattle.plain_data.specs.declared.data.Data.{Data}
use Rattle.link_fields.specs.Basic.{u32, text, url, flags, optional}
use Rattle.link_fields.specs.Limits.{texts_are_utf8}
use Rattle.link_fields.specs.Skipping.{data_field}
use Rattle.frame_grammar.specs.Parts.{target}
use Rattle.agent_terms.specs.declared.request.Request.{Request}
use Rattle.agent_terms.specs.declared.request.Request.TheVariants as ask

-- REQUESTS

-- each part of the request is in range of its field; a truth value always is
abbrev pub HasFitParts : Request → Type 0
HasFitParts ask.Next = Unit {0}
HasFitParts (ask.Sync asker) = u32.Fits asker
HasFitParts (ask.Frame asker name set page) = u32.Fits asker × text.Fits name × flags.Fits set × (optional url).Fits page
HasFitParts (ask.Drop asker nav) = u32.Fits asker × u32.Fits nav
HasFitParts (ask.Open asker page name noopener user) = u32.Fits asker × (optional url).Fits page × text.Fits name
HasFitParts (ask.Link asker page name noopener user) = u32.Fits asker × url.Fits page × text.Fits name
HasFitParts (ask.Go asker doc page user) = u32.Fits asker × u32.Fits doc × url.Fits page
HasFitParts (ask.Name asker doc name) = u32.Fits asker × u32.Fits doc × text.Fits name
HasFitParts (ask.Disown asker doc) = u32.Fits asker × u32.Fits doc
HasFitParts (ask.Close asker doc user) = u32.Fits asker × u32.Fits doc
HasFitParts (ask.Post asker doc to body) = u32.Fits asker × u32.Fits doc × target.Fits to × data_field.Fits body
HasFitParts (ask.Domain asker value) = u32.Fits asker × text.Fits value
HasFitParts ask.More = Unit {0}

-- DATA

-- the texts of each value are UTF-8
abbrev pub are_utf8 : List Data → Bool
are_utf8 items = list_all texts_are_utf8 items

abbrev pub is_member_utf8 : List ℕ × Data → Bool
is_member_utf8 m = is_utf8 m.0 && texts_are_utf8 m.1

-- and so is each key
abbrev pub members_are_utf8 : List (List ℕ × Data) → Bool
members_are_utf8 members = list_all is_member_utf8 members
