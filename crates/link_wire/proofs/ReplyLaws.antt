-- Replies: what is read is spelled so, and what is spelled so is read.
use Rattle.std.proofs.Common.{◌≡◌, ℕ, zero, suc, nat_le, refl, sym, ap, arith}
use Rattle.std.specs.Prelude.{◌||◌, ◌&&◌, ◌==◌, Bool, List, not}
use Rattle.tree_log.specs.declared.entry.Entry.{Entry}
use Rattle.agent_terms.specs.declared.request.ReplyOutcome.{ReplyOutcome}
use Rattle.link_fields.specs.declared.fault.Flaw.TheVariants.{Range}
use Rattle.link_fields.specs.Field.{◌⊗◌}
use Rattle.link_fields.specs.Basic.{u8, u16, u32, small, truth}
use Rattle.link_fields.specs.Lawful.{IsLawful}
use Rattle.link_fields.specs.Values.{counted}
use Rattle.link_fields.proofs.FieldLaws.{at_most, nothing_law, pair_law, only_law, mapped_law, keyed_law, truth_law, u8_law, u16_law, u32_law, small_law, optional_law}
use Rattle.link_fields.proofs.ValueLaws.{never_law, counted_law}
use Rattle.link_fields.proofs.KindLaws.{row_or_law, row_or_key}
use Rattle.frame_grammar.specs.Entries.{entry}
use Rattle.frame_grammar.specs.Cut.{ReplyParts}
use Rattle.frame_grammar.specs.Outcomes.{why_number, why_of, why_field, rule_field, done_kind, security_kind, null_kind, made_kind, task_kind, nothing_kind, unloaded_kind, not_yours_kind, bad_frame_kind, full_kind, outcome_spelled, outcome_kind, outcome_row}
use Rattle.link_wire.specs.Replies.{tells, told, told_more, told_count, news_behind, told_news, reply_row}
use Rattle.link_wire.proofs.EntryLaws.{entry_law}

why_back : (n : ℕ) → (small 7).Fits n → why_number (why_of n) ≡ n
why_back zero h = refl
why_back (suc zero) h = refl
why_back (suc (suc zero)) h = refl
why_back (suc (suc (suc zero))) h = refl
why_back (suc (suc (suc (suc zero)))) h = refl
why_back (suc (suc (suc (suc (suc zero))))) h = refl
why_back (suc (suc (suc (suc (suc (suc zero)))))) h = refl
why_back (suc (suc (suc (suc (suc (suc (suc zero))))))) h = refl
why_back (suc (suc (suc (suc (suc (suc (suc (suc n)))))))) h = let le = at_most (suc (suc (suc (suc (suc (suc (suc (suc n)))))))) 7 h.1 in absurd (omega arith)

why_law : IsLawful why_field
why_law = mapped_law why_of why_number (small 7) why_back (small_law 7)

rule_law : IsLawful rule_field
rule_law = only_law Range (λ n. nat_le 1 n && nat_le n 11) u8 u8_law

outcome_row_law : (tag : ℕ) → IsLawful (outcome_row tag)
outcome_row_law tag =
    row_or_law outcome_spelled tag done_kind _ (nothing_law tt) (λ x. refl)
    (row_or_law outcome_spelled tag security_kind _ rule_law (λ x. refl)
    (row_or_law outcome_spelled tag null_kind _ (nothing_law tt) (λ x. refl)
    (row_or_law outcome_spelled tag made_kind _ u32_law (λ x. refl)
    (row_or_law outcome_spelled tag task_kind _ u32_law (λ x. refl)
    (row_or_law outcome_spelled tag nothing_kind _ (nothing_law tt) (λ x. refl)
    (row_or_law outcome_spelled tag unloaded_kind _ u32_law (λ x. refl)
    (row_or_law outcome_spelled tag not_yours_kind _ (pair_law _ _ u32_law (optional_law u16 u16_law)) (λ x. refl)
    (row_or_law outcome_spelled tag bad_frame_kind _ (pair_law _ _ u32_law why_law) (λ x. refl)
    (row_or_law outcome_spelled tag full_kind _ u32_law (λ x. refl)
    (never_law Range))))))))))

pub outcome_key : (tag : ℕ) (o : ReplyOutcome) → (outcome_row tag).Fits o → outcome_kind o ≡ tag
outcome_key tag o =
    row_or_key outcome_spelled tag done_kind _ o (λ x. refl)
    (row_or_key outcome_spelled tag security_kind _ o (λ x. refl)
    (row_or_key outcome_spelled tag null_kind _ o (λ x. refl)
    (row_or_key outcome_spelled tag made_kind _ o (λ x. refl)
    (row_or_key outcome_spelled tag task_kind _ o (λ x. refl)
    (row_or_key outcome_spelled tag nothing_kind _ o (λ x. refl)
    (row_or_key outcome_spelled tag unloaded_kind _ o (λ x. refl)
    (row_or_key outcome_spelled tag not_yours_kind _ o (λ x. refl)
    (row_or_key outcome_spelled tag bad_frame_kind _ o (λ x. refl)
    (row_or_key outcome_spelled tag full_kind _ o (λ x. refl)
    (λ h. absurd h))))))))))

told_law : (kind : ℕ) → IsLawful (told kind)
told_law kind = only_law Range (λ n. tells kind || n == 0) u32 u32_law

told_more_law : (kind : ℕ) → IsLawful (told_more kind)
told_more_law kind = only_law Range (λ more. tells kind || not more) truth truth_law

told_count_law : (kind : ℕ) (more : Bool) → IsLawful (told_count kind more)
told_count_law kind more = only_law Range (λ n. not (more && n == 0)) (told kind) (told_law kind)

news_behind_law : (kind : ℕ) (more : Bool) → IsLawful (news_behind kind more)
news_behind_law kind more = mapped_law (λ (news : List Entry). (more, news)) (λ x. x.1) (counted (told_count kind more) entry) (λ x h. refl) (counted_law (told_count kind more) entry (told_count_law kind more) entry_law)

told_news_law : (kind : ℕ) → IsLawful (told_news kind)
told_news_law kind = keyed_law (λ (x : Bool × List Entry). x.0) (told_more kind) (news_behind kind) (told_more_law kind) (news_behind_law kind) (λ more x s h. ap (λ (y : Bool × List Entry). y.0) (sym h.1))

pub reply_row_law : (kind : ℕ) → IsLawful (reply_row kind)
reply_row_law kind = mapped_law _ _ (outcome_row kind ⊗ told kind ⊗ told_news kind) (λ x h. refl) (pair_law _ _ (outcome_row_law kind) (pair_law _ _ (told_law kind) (told_news_law kind)))

pub reply_key : (kind : ℕ) (r : ReplyParts) → (reply_row kind).Fits r → outcome_kind r.outcome ≡ kind
reply_key kind r h = outcome_key kind r.outcome h.0.0
