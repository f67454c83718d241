-- What one more entry does to the frame that is being written.
use Rattle.std.proofs.Common.{◌≡◌, ℕ, ◌+◌, ◌≤◌, ◌<◌, true, false, List, [], ◌∷◌, ◌++◌, length, refl, sym, ap, ◌∙◌, arith}
use Rattle.std.proofs.lemmas.Bool.{le-leb, lt-leb}
use Rattle.std.proofs.lemmas.List.{length-append, append-nil, flat_map_more}
use Rattle.tree_log.specs.declared.entry.Entry.{Entry}
use Rattle.agent_terms.specs.declared.request.ReplyOutcome.{ReplyOutcome}
use Rattle.frame_grammar.specs.Entries.{entry}
use Rattle.frame_grammar.specs.Cut.{ReplyParts, reply_body, has_room}
use Rattle.reply_writing.specs.Bytes.{head, cleared, frame_so_far}
use Rattle.reply_writing.specs.Telling.{after_telling, IsTold}
use Rattle.reply_writing.specs.Writing.{IsWriting}
use Rattle.reply_writing.proofs.Lengths.{outcome_length, head_length, body_length, frame_length, news_length}

-- its bytes stand behind the others
pub one_more : (o : ReplyOutcome) (from : ℕ) (news : List Entry) (e : Entry) → frame_so_far o from news ++ entry.spell e ≡ frame_so_far o from (news ++ e ∷ [])
one_more o from news e = flat_map_more entry.spell (head o from ++ cleared) news e

-- the head has six bytes
pub body_of_frame : (r : ReplyParts) → length (frame_so_far r.outcome r.from r.news) ≡ 6 + length (reply_body r)
body_of_frame r = omega (arith, body_length r, frame_length r.outcome r.from r.news)

with_one_more : (o : ReplyOutcome) (from : ℕ) (news : List Entry) (e : Entry) → 6 + length (reply_body (record { outcome = o; from = from; more = false; news = news ++ e ∷ [] })) ≡ length (frame_so_far o from news) + length (entry.spell e)
with_one_more o from news e = sym (body_of_frame (record { outcome = o; from = from; more = false; news = news ++ e ∷ [] })) ∙ ap length (sym (one_more o from news e)) ∙ length-append (frame_so_far o from news) (entry.spell e)

pub room : (o : ReplyOutcome) (from : ℕ) (news : List Entry) (e : Entry) → length (frame_so_far o from news) + length (entry.spell e) ≤ 65542 → has_room o from (news ++ e ∷ []) ≡ true
room o from news e le = le-leb (length (reply_body (record { outcome = o; from = from; more = false; news = news ++ e ∷ [] }))) 65536 (omega (arith, with_one_more o from news e))

pub no_room : (o : ReplyOutcome) (from : ℕ) (news : List Entry) (e : Entry) → 65542 < length (frame_so_far o from news) + length (entry.spell e) → has_room o from (news ++ e ∷ []) ≡ false
no_room o from news e lt = lt-leb (length (reply_body (record { outcome = o; from = from; more = false; news = news ++ e ∷ [] }))) 65536 (omega (arith, with_one_more o from news e))

-- ---- the writer's fields, before and after

pub begins : (o : ReplyOutcome) (from : ℕ) (bytes : List ℕ) (place : ℕ) → bytes ≡ head o from ++ cleared → place ≡ length (head o from) → IsWriting o from [] bytes place 0
begins o from bytes place e at =
    let whole : bytes ≡ frame_so_far o from [] = e ∙ sym (append-nil (head o from ++ cleared)) in
    record { spelled = whole; placed = at; counted = refl; short = omega (arith, ap length whole, frame_length o from [], outcome_length o) }

pub tells : (r : ReplyParts) (bytes : List ℕ) (place count : ℕ) (e : Entry) → IsWriting r.outcome r.from r.news bytes place count → length bytes + length (entry.spell e) ≤ 65542
    → IsWriting r.outcome r.from (r.news ++ e ∷ []) (bytes ++ entry.spell e) place (count + 1) × IsTold e true r (after_telling e true r)
tells r bytes place count e w le =
    let fits : length (frame_so_far r.outcome r.from r.news) + length (entry.spell e) ≤ 65542 = omega (arith, ap length w.spelled) in (
      record {
        spelled = ap (λ xs. xs ++ entry.spell e) w.spelled ∙ one_more r.outcome r.from r.news e;
        placed = w.placed;
        counted = omega (arith, w.counted, length-append r.news (e ∷ []));
        short = omega (arith, length-append bytes (entry.spell e));
      },
      record { room = sym (room r.outcome r.from r.news e fits); after = refl },
    )

pub cuts : (r : ReplyParts) (bytes : List ℕ) (place count : ℕ) (e : Entry) → IsWriting r.outcome r.from r.news bytes place count → 65542 < length bytes + length (entry.spell e)
    → IsTold e false r (after_telling e false r)
cuts r bytes place count e w lt = record { room = sym (no_room r.outcome r.from r.news e (omega (arith, ap length w.spelled))); after = refl }

-- there are fewer entries than bytes
pub few : (o : ReplyOutcome) (from : ℕ) (news : List Entry) (bytes : List ℕ) (place count : ℕ) → IsWriting o from news bytes place count → count ≤ 65542
few o from news bytes place count w = omega (arith, w.counted, w.short, ap length w.spelled, news_length news, frame_length o from news)

-- the places lie within the bytes
pub roomy : (o : ReplyOutcome) (from : ℕ) (news : List Entry) (bytes : List ℕ) (place count : ℕ) → IsWriting o from news bytes place count → (10 ≤ place) × (place + 5 ≤ length bytes)
roomy o from news bytes place count w = (omega (arith, w.placed, head_length o from), omega (arith, w.placed, head_length o from, ap length w.spelled, frame_length o from news))
