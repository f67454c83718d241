-- What is decided on bytes may join the log.
use Rattle.std.proofs.Common.{◌≡◌, ℕ, ◌+◌, ◌≤◌, ◌<◌, ◌^◌, List, [], ◌∷◌, length, Bool, true, false, Ok, Err, refl, sym, ap, subst, ◌∙◌, arith, inl, inr, if◌then◌else◌}
use Rattle.std.specs.Prelude.{◌&&◌, ◌⊎◌, is_none}
use Rattle.std.specs.List.{AllByRecursion, All}
use Rattle.std.proofs.lemmas.Bool.Decides.{nat_tests}
use Rattle.std.proofs.lemmas.List.Elements.{All-from_recursion, recursion_from_All}
use Rattle.agent_terms.specs.Limits.{most_entries, most_made}
use Rattle.agent_terms.specs.declared.request.Request.{Request}
use Rattle.agent_terms.specs.declared.request.Request.TheVariants as ask
use Rattle.agent_laws.specs.Actors.{has_no_asker}
use Rattle.agent_laws.proofs.Logs.Admitted.{exchange_admitted}
use Rattle.agent_laws.proofs.Logs.Exchanges.{exchange-asked, asked-decided, more_gives}
use Rattle.coordinator_rules.specs.Decision.{Rules, Decision, exchange, asker_of, home_if_active}
use Rattle.exchange_laws.specs.Own.{IsOwn}
use Rattle.exchange_laws.proofs.Made.{AreFew}
use Rattle.exchange_laws.proofs.Owned.{exchange_owned}
use Rattle.exchange_laws.proofs.Posted.{all_ascend}
use Rattle.link_fields.specs.Lawful.{IsBytes}
use Rattle.link_wire.specs.Bad.{Decoded}
use Rattle.link_wire.specs.Requests.{IsRequest, request_read}
use Rattle.link_wire.proofs.RequestFrames.{request_found}
use Rattle.single_agent.specs.LegalRecord.{is_loss, is_loss_of}
use Rattle.single_agent.specs.Turns.{is_full}
use Rattle.tree_log.specs.Admits.{AreAdmitted}
use Rattle.tree_log.specs.Range.{HasAscendingKeys}
use Rattle.tree_log.specs.Tree.{tree_of, is, is_active}
use Rattle.tree_log.specs.declared.entry.Entry.{Entry}
use Rattle.desk.proofs.Deciding.{needs-asked}
use Rattle.desk.specs.Answering.{HasOpenerLast}
use Rattle.desk.specs.Books.{AllJoin, HasRoomFor, MayJoin}
use Rattle.desk.specs.Serving.{answered, decided, decided_on, full, needs_room}

-- A REQUEST THAT NEEDS NO ROOM MAKES NOTHING

idle_asked : (rules : Rules) (log : List Entry) (r : ℕ) (q : Request) (home active : Bool) → has_no_asker q ≡ false → is (home_if_active (tree_of log) (asker_of q)) r ≡ home
    → is_active (tree_of log) (asker_of q) ≡ active → (home && active) ≡ false → (exchange rules log r q).entries ≡ []
idle_asked rules log r q false active other h a k = rw (exchange-asked rules log r q other, h) refl
idle_asked rules log r q true false other h a k = rw (exchange-asked rules log r q other, h, asked-decided rules log r q, a) refl
idle_asked rules log r q true true other h a k = absurd cc

pub idle : (rules : Rules) (log : List Entry) (r : ℕ) (q : Request) → needs_room (tree_of log) r q ≡ false → (exchange rules log r q).entries ≡ []
unfolding has_no_asker
idle rules log r q k = by_kind (has_no_asker q) refl where
  unasked : (p : Request) → has_no_asker p ≡ true → needs_room (tree_of log) r p ≡ false → (exchange rules log r p).entries ≡ []
  unasked ask.Next h n = absurd cc
  unasked ask.More h n = ap (λ d. d.entries) (more_gives rules log r)
  unasked _ h n = absurd cc

  by_kind : (b : Bool) → has_no_asker q ≡ b → (exchange rules log r q).entries ≡ []
  by_kind true e = unasked q e k
  by_kind false e =
      idle_asked rules log r q (is (home_if_active (tree_of log) (asker_of q)) r) (is_active (tree_of log) (asker_of q)) e refl refl (sym (needs-asked (tree_of log) r q e) ∙ k)

-- ENTRIES OF AN EXCHANGE

own_stays : (log : List Entry) (r x : ℕ) (e : Entry) → IsOwn log r e → is_loss x e ≡ false
own_stays log r x e o = ap (λ by. is_none by && is_loss_of x e.what) o.by

all_join : (log : List Entry) (r : ℕ) (es : List Entry) → AllByRecursion (IsOwn log r) es → AllByRecursion (λ (e : Entry). HasAscendingKeys e.what) es → AllJoin es
all_join log r [] own keys = tt
all_join log r (e ∷ es) own keys = (record { keys = keys.0; staying = λ x. own_stays log r x e own.0 }, all_join log r es own.1 keys.1)

has_room : (es log : List Entry) → AreFew es → length log + most_made ≤ most_entries → HasRoomFor es log
has_room [] log few room = tt
has_room (e ∷ []) log few room = omega arith
has_room (e ∷ f ∷ []) log few room = omega arith
has_room (e ∷ f ∷ d ∷ es) log few room = absurd few

no_room : (es log : List Entry) → es ≡ [] → HasRoomFor es log
no_room es log h = subst (λ es. HasRoomFor es log) (sym h) tt

room_for : (rules : Rules) (log : List Entry) (r : ℕ) (q : Request) → (is_full log ≡ false) ⊎ (needs_room (tree_of log) r q ≡ false) → HasRoomFor (exchange rules log r q).entries log
room_for rules log r q (inl h) = has_room (exchange rules log r q).entries log (exchange_owned rules log r q).few (let short : is_full log ≡ false = h in grind (arith, nat_tests))
room_for rules log r q (inr h) = no_room (exchange rules log r q).entries log (idle rules log r q h)

exchange_joins : (rules : Rules) (log : List Entry) (r : ℕ) (q : Request) → IsRequest q → AreAdmitted log → length log < 2 ^ 30
    → (is_full log ≡ false) ⊎ (needs_room (tree_of log) r q ≡ false) → MayJoin (exchange rules log r q).entries log
exchange_joins rules log r q fits all short room = record {
  admitted = exchange_admitted rules log r q all short;
  each = all_join log r (exchange rules log r q).entries (exchange_owned rules log r q).own (recursion_from_All (λ (e : Entry). HasAscendingKeys e.what) (exchange rules log r q).entries (all_ascend rules log r q fits));
  room = room_for rules log r q room;
}

-- DECISIONS

none_joins : (log : List Entry) → AreAdmitted log → MayJoin [] log
none_joins log all = record { admitted = all; each = tt; room = tt }

-- what holds of no entries, and of those of an exchange that has the room that it needs, holds of those that are decided
by_room : (P : List Entry → Type 0) (full needs : Bool) (none made : Decision) → P none.entries → ((full ≡ false) ⊎ (needs ≡ false) → P made.entries)
    → P (if full && needs then none else made).entries
by_room P true true none made n h = n
by_room P true false none made n h = h (inr refl)
by_room P false needs none made n h = h (inl refl)

by_read : (P : List Entry → Type 0) (rules : Rules) (log : List Entry) (r : ℕ) (bytes : List ℕ) → P []
    → ((q : Request) → request_read bytes ≡ Ok q → (is_full log ≡ false) ⊎ (needs_room (tree_of log) r q ≡ false) → P (exchange rules log r q).entries) → P (answered rules log r bytes).entries
unfolding answered decided
by_read P rules log r bytes none made = by_case (request_read bytes) refl where
  by_case : (d : Decoded Request) → request_read bytes ≡ d → P (decided_on rules log r d).entries
  by_case (Ok q) e = by_room P (is_full log) (needs_room (tree_of log) r q) (full log) (exchange rules log r q) none (made q e)
  by_case (Err bad) e = none

pub by_answer : (P : List Entry → Type 0) (rules : Rules) (log : List Entry) (r : ℕ) (bytes : List ℕ) → IsBytes bytes → P []
    → ((q : Request) → IsRequest q → (is_full log ≡ false) ⊎ (needs_room (tree_of log) r q ≡ false) → P (exchange rules log r q).entries) → P (answered rules log r bytes).entries
by_answer P rules log r bytes small none made = by_read P rules log r bytes none (λ q e room. made q (request_found bytes q small e).0 room)

pub may_join : (rules : Rules) (log : List Entry) (r : ℕ) (bytes : List ℕ) → IsBytes bytes → AreAdmitted log → length log < 2 ^ 30 → MayJoin (answered rules log r bytes).entries log
may_join rules log r bytes small all short =
    by_answer (λ es. MayJoin es log) rules log r bytes small (none_joins log all) (λ q fits room. exchange_joins rules log r q fits all short room)

opener_of_few : (es : List Entry) → AreFew es → HasOpenerLast es
opener_of_few [] few = tt
opener_of_few (e ∷ []) few = tt
opener_of_few (e ∷ f ∷ []) few = few
opener_of_few (e ∷ f ∷ d ∷ es) few = tt

pub opener_last : (rules : Rules) (log : List Entry) (r : ℕ) (bytes : List ℕ) → IsBytes bytes → HasOpenerLast (answered rules log r bytes).entries
opener_last rules log r bytes small =
    by_answer HasOpenerLast rules log r bytes small tt (λ q fits room. opener_of_few (exchange rules log r q).entries (exchange_owned rules log r q).few)

-- each entry is the renderer's own
pub each_owned : (rules : Rules) (log : List Entry) (r : ℕ) (bytes : List ℕ) → AllByRecursion (IsOwn log r) (answered rules log r bytes).entries
each_owned rules log r bytes = by_read (λ es. AllByRecursion (IsOwn log r) es) rules log r bytes tt (λ q e room. (exchange_owned rules log r q).own)

pub all_owned : (rules : Rules) (log : List Entry) (r : ℕ) (bytes : List ℕ) → All (IsOwn log r) (answered rules log r bytes).entries
all_owned rules log r bytes = All-from_recursion (IsOwn log r) (answered rules log r bytes).entries (each_owned rules log r bytes)
