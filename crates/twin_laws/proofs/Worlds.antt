-- Two runs that a renderer can't tell apart.
use Rattle.std.proofs.Common.{◌≡◌, ℕ, ◌+◌, List, [], ◌∷◌, ◌++◌, length, refl, ap, ◌∙◌, if◌then◌else◌}
use Rattle.std.specs.Prelude.{◌==◌}
use Rattle.tree_log.specs.declared.entry.Entry.{Entry}
use Rattle.tree_log.specs.Tree.{tree_of}
use Rattle.tree_log.specs.Blanking.{is_homed}
use Rattle.agent_terms.specs.declared.request.ReplyOutcome.{ReplyOutcome}
use Rattle.coordinator_rules.specs.Decision.{Rules, Decision, exchange}
use Rattle.coordinator_rules.specs.Told.{news_from}
use Rattle.frame_grammar.specs.Cut.{ReplyParts, reply_telling}
use Rattle.single_agent.specs.LegalLog.{lost_entry}
use Rattle.twin_laws.specs.Twins.{TwinLogs, HomesStay}
use Rattle.twin_laws.specs.Worlds.{Event, reply_of, refusal, world_after, replies, AreAlike, No_more, Asked_alike, Garbled_alike, Lost_alike}
use Rattle.twin_laws.proofs.Twins.{same_twin, told-twin, length-twin}
use Rattle.twin_laws.proofs.Pairs.{exchange-twin}
use Rattle.twin_laws.proofs.HomesStay.{exchange_stays, loss_stays}

news-twin : (r heard : ℕ) (left right : List Entry) → TwinLogs r left right → news_from r heard left ≡ news_from r heard right
news-twin r heard left right h = rw (length-twin r left right h, told-twin r left right h) refl

reply-twin : (r heard : ℕ) (left right : List Entry) (a b : Decision) → a.outcome ≡ b.outcome → TwinLogs r (a.entries ++ left) (b.entries ++ right)
    → reply_of r (record { log = left; heard = heard }) a ≡ reply_of r (record { log = right; heard = heard }) b
reply-twin r heard left right a b o h =
    ap (λ (z : ReplyOutcome). reply_telling z heard (news_from r heard (a.entries ++ left))) o
    ∙ ap (reply_telling b.outcome heard) (news-twin r heard (a.entries ++ left) (b.entries ++ right) h)

heard-twin : (r x heard : ℕ) (left right : List Entry) (a b : Decision) → a.outcome ≡ b.outcome → TwinLogs r (a.entries ++ left) (b.entries ++ right)
    → (world_after r x (record { log = left; heard = heard }) a).heard ≡ (world_after r x (record { log = right; heard = heard }) b).heard
heard-twin r x heard left right a b o h =
    ap (λ (z : ReplyParts). if x == r then heard + length z.news else heard) (reply-twin r heard left right a b o h)

-- alike events on twin logs give r the same replies
pub replies-alike : (rules : Rules) (r : ℕ) (events others : List Event) (left right : List Entry) (heard : ℕ) → AreAlike rules r events others left right → TwinLogs r left right → HomesStay left
    → replies rules r events (record { log = left; heard = heard }) ≡ replies rules r others (record { log = right; heard = heard })
unfolding replies
replies-alike rules r events others left right heard (No_more _ _) h stay = refl
replies-alike rules r events others left right heard (Asked_alike x q q' es os _ _ alike rest) h stay =
    let a : Decision = exchange rules left x q in
    let b : Decision = exchange rules right x q' in
    let pair : (a.outcome ≡ b.outcome) × TwinLogs r (a.entries ++ left) (b.entries ++ right) = exchange-twin rules left right r x q q' h stay alike in
    let e : reply_of r (record { log = left; heard = heard }) a ≡ reply_of r (record { log = right; heard = heard }) b = reply-twin r heard left right a b pair.0 pair.1 in
    let k : (world_after r x (record { log = left; heard = heard }) a).heard ≡ (world_after r x (record { log = right; heard = heard }) b).heard = heard-twin r x heard left right a b pair.0 pair.1 in
    let later : replies rules r es (record { log = a.entries ++ left; heard = (world_after r x (record { log = left; heard = heard }) a).heard })
    ≡ replies rules r os (record { log = b.entries ++ right; heard = (world_after r x (record { log = left; heard = heard }) a).heard }) =
    replies-alike rules r es os (a.entries ++ left) (b.entries ++ right) (world_after r x (record { log = left; heard = heard }) a).heard rest pair.1 (exchange_stays rules left x q stay) in
    ap (λ (z : ReplyParts). (if x == r then z ∷ [] else []) ++ replies rules r es (world_after r x (record { log = left; heard = heard }) a)) e
    ∙ ap (λ (z : List ReplyParts). (if x == r then reply_of r (record { log = right; heard = heard }) b ∷ [] else []) ++ z) (later ∙ ap (λ (z : ℕ). replies rules r os (record { log = b.entries ++ right; heard = z })) k)
replies-alike rules r events others left right heard (Garbled_alike x place why es os _ _ rest) h stay =
    ap (λ (z : List ReplyParts). (if x == r then refusal place why ∷ [] else []) ++ z) (replies-alike rules r es os left right heard rest h stay)
replies-alike rules r events others left right heard (Lost_alike x es os _ _ rest) h stay =
    replies-alike rules r es os (lost_entry x ∷ left) (lost_entry x ∷ right) heard rest (same_twin (is_homed (tree_of (lost_entry x ∷ left)) r) (lost_entry x), h) (loss_stays left x stay)
