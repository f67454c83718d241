-- An exchange with a coordinator over a link that fails at one call.
use Rattle.std.proofs.Common.{◌≡◌, ℕ, ◌+◌, ◌-◌, ◌≤◌, ◌^◌, List, Bool, true, false, None, refl, sym, ap, subst, ◌∙◌, arith, not}
use Rattle.std.specs.Prelude.{◌==◌}
use Rattle.tree_log.specs.declared.entry.Entry.{Entry}
use Rattle.agent_terms.specs.declared.request.Request.{Request}
use Rattle.agent_terms.specs.declared.request.Request.TheVariants.{More}
use Rattle.agent_terms.specs.declared.request.ReplyOutcome.{ReplyOutcome}
use Rattle.agent_terms.specs.declared.request.ReplyOutcome.TheVariants as outcomes
use Rattle.desk.specs.Serving.{Coordinator, IsServed}
use Rattle.frame_grammar.specs.Outcomes.{outcome_kind}
use Rattle.link_exchange.specs.Calls.{Course, Told, Fails, Strays, Starves, Exchanges, Ends, Goes_on}
use Rattle.link_port.specs.Failing.{calls, has_failed, inside, is_served, number}
use Rattle.link_port.specs.Hearing.{heard_of}
use Rattle.link_port.specs.Spelled.{is_nothing}
use Rattle.link_port.specs.declared.failing.FailingLink.{FailingLink}
use Rattle.link_wire.specs.declared.link.Link.{Ghosts}
use Rattle.link_wire.specs.Links.{is_fit}
use Rattle.link_wire.specs.Requests.{IsRequest, request_frame}
use Rattle.link_laws.specs.Faring as fare
use Rattle.link_laws.specs.Faring.{calls_with, Fares, first_counts, Unmade, Passed}
use Rattle.link_laws.specs.Standing.{HasFitLog, Stands}
use Rattle.link_laws.specs.Talking as talk
use Rattle.link_laws.specs.Talking.{calls_by, counts, decision, HasHeard, Heard, Starved, Talks}
use Rattle.link_laws.proofs.Answered.{is_answered, replied_is}
use Rattle.link_laws.proofs.Failing.{failing, fares}
use Rattle.link_laws.proofs.Served.{has_heard, IsOver, never_fails, never_strays, served_as}

-- WHAT COUNTS

kind_counts : (o : ReplyOutcome) → not (outcome_kind o == 70) ≡ counts o
kind_counts outcomes.Nothing = refl
kind_counts _ = refl

calls_of : (o : ReplyOutcome) → calls_with (counts o) 0 ≡ calls_by o
calls_of outcomes.Nothing = refl
calls_of _ = refl

-- the reply of a coordinator counts as its decision's outcome does
reply_counts : (r : ℕ) (q : Request) (old new : Coordinator) (reply : List ℕ) → IsRequest q → IsServed r (request_frame q) old reply new
    → not (is_nothing reply) ≡ counts (decision r old q).outcome
reply_counts r q old new reply is served =
    ap (λ b. not (is_nothing b)) served.answer ∙ ap (λ o. not (outcome_kind o == 70)) (replied_is r q old new reply is served) ∙ kind_counts (decision r old q).outcome

undone : (b c : Bool) → not b ≡ c → b ≡ false → c ≡ true
undone b c e h = sym e ∙ ap not h

module _ {L : Type 0} (link : Ghosts L) (seat : L → ℕ) (below : L → Coordinator) (over : IsOver link seat below) (r : ℕ) where
  first_is : (l m : L) (heard now : List Entry) (q : Request) (outcome : ReplyOutcome) → IsRequest q → seat l ≡ r
      → (exchange : Exchanges link r l heard None q (Told now outcome) m) → first_counts exchange ≡ counts (decision r (below l) q).outcome
  first_is l m heard now q outcome is at (Ends _ _ _ _ _ bytes answer call answered last) =
      reply_counts r q (below l) (below m) bytes is (served_as link seat below over r l m q bytes at call)
  first_is l m heard now q outcome is at (Goes_on _ mid _ _ _ _ bytes answer _ call answered more rest) =
      reply_counts r q (below l) (below mid) bytes is (served_as link seat below over r l mid q bytes at call)

  module _ (l : FailingLink L) (q : Request) (heard : List Entry) (is : IsRequest q) (fit : is_fit r heard q ≡ true) (at : seat (inside l) ≡ r)
      (heard_is : heard ≡ heard_of r (below (inside l)).history) (under : link.pending (inside l) ≡ None) (none : calls l ≡ 0) where
    first_number : number l ≡ calls l + 1 → number l ≡ 1
    first_number e = e ∙ ap (λ n. n + 1) none

    talks_by : (m : FailingLink L) (course : Course) → Stands r (below (inside l)) → HasFitLog (below (inside m)) → Fares link r l heard None q m course
        → Talks r (number l) (is_served l) (below (inside l)) (below (inside m)) q (calls m) course
    talks_by m (Told now outcome) s later (Passed _ exchange due calls_are failed) =
        let h = has_heard link seat below over r (inside l) (inside m) q heard now outcome is at heard_is s later exchange in
        let counted : first_counts exchange ≡ counts outcome = first_is (inside l) (inside m) heard now q outcome is at exchange ∙ ap counts (sym h.outcome_is) in
        Heard now outcome h (calls_are ∙ ap (calls_with (first_counts exchange)) none ∙ ap (λ b. calls_with b 0) counted ∙ calls_of outcome)
        (λ e. let d = due (e ∙ ap (λ n. n + 1) (sym none)) in (d.0, sym counted ∙ d.1))
    talks_by m Fails s later (fare.Refused e unserved same calls_are failed) = talk.Refused (first_number e) unserved (ap below same)
    talks_by m Fails s later (fare.Dropped bytes e served counted relation calls_are failed) =
        let serves : IsServed r (request_frame q) (below (inside l)) bytes (below (inside m)) =
        subst (λ x. IsServed x (request_frame q) (below (inside l)) bytes (below (inside m))) at (over.served (inside l) (inside m) (request_frame q) bytes relation) in
        talk.Dropped (first_number e) served
        (undone (is_nothing bytes) (counts (decision r (below (inside l)) q).outcome) (reply_counts r q (below (inside l)) (below (inside m)) bytes is serves) counted)
        (is_answered r q (below (inside l)) (below (inside m)) bytes is serves)
    talks_by m Fails s later (Passed _ exchange due calls_are failed) = absurd (never_fails link seat below over r (inside l) (inside m) q heard None exchange)
    talks_by m (Strays place) s later (Passed _ exchange due calls_are failed) =
        absurd (never_strays link seat below over r (inside l) (inside m) q heard None place is fit at heard_is under exchange)
    talks_by m Starves s later (Unmade e) = Starved
    talks_by m Starves s later (Passed _ exchange due calls_are failed) = Starved

    small : (x : L) → link.faults x ≤ 2 ^ 64 - 1
    small x = omega (arith, over.faults x)

    pub talks : (m : FailingLink L) (course : Course) → (q ≡ More → ⊥) → has_failed l ≡ false → Stands r (below (inside l)) → HasFitLog (below (inside m))
        → Exchanges (failing link) r l heard None q course m → Talks r (number l) (is_served l) (below (inside l)) (below (inside m)) q (calls m) course
    talks m course other before s later exchange = talks_by m course s later (fares link small r l heard None q other before m course exchange)

    strays_by : (m : FailingLink L) (place : ℕ) → Fares link r l heard None q m (Strays place) → ⊥
    strays_by m place (Passed _ exchange due calls_are failed) = never_strays link seat below over r (inside l) (inside m) q heard None place is fit at heard_is under exchange

    pub no_stray : (m : FailingLink L) (place : ℕ) → (q ≡ More → ⊥) → has_failed l ≡ false → Exchanges (failing link) r l heard None q (Strays place) m → ⊥
    no_stray m place other before exchange = strays_by m place (fares link small r l heard None q other before m (Strays place) exchange)
