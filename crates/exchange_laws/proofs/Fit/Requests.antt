-- The parts of a request that a frame spells are in range.
use Rattle.std.proofs.Common.{◌≡◌, ℕ, List, [], Option, Some, subst, arith}
use Rattle.std.proofs.lemmas.Str.{IsUtf8-from_ascii}
use Rattle.std.proofs.lemmas.Str.Ascii.{IsAscii-nil}
use Rattle.plain_data.specs.declared.data.Data.{Data}
use Rattle.tree_log.specs.declared.entry.Target.{Target}
use Rattle.agent_terms.specs.declared.request.Request.{Request}
use Rattle.agent_terms.specs.declared.request.Request.TheVariants as ask
use Rattle.link_fields.specs.Basic.{text, url, flags, optional}
use Rattle.link_fields.specs.Skipping.{data_field}
use Rattle.frame_grammar.specs.Parts.{target}
use Rattle.link_wire.specs.Requests.{IsRequest}
use Rattle.exchange_laws.proofs.Made.{url_in, name_in}
use Rattle.exchange_laws.proofs.Fit.Parts.{some_fits, none_fits, if_some}
use Rattle.exchange_laws.proofs.Fit.Origins.{text_fits}

pub urls_fit : (q : Request) → IsRequest q → (optional url).Fits (url_in q)
urls_fit (ask.Open asker u name noopener user) h =
    let same : h.0.0.1.0 ≡ u = cc in
    subst (λ (x : Option (List ℕ)). (optional url).Fits x) same h.0.1.1.0
urls_fit (ask.Link asker u name noopener user) h =
    let same : h.0.0.1.0 ≡ u = cc in
    some_fits url u (subst (λ (x : List ℕ). url.Fits x) same h.0.1.1.0)
urls_fit (ask.Go asker doc u user) h =
    let same : h.0.0.1.1.0 ≡ u = cc in
    some_fits url u (subst (λ (x : List ℕ). url.Fits x) same h.0.1.1.1.0)
urls_fit _ h = none_fits url

pub url_fits : (q : Request) (u : List ℕ) → IsRequest q → url_in q ≡ Some u → url.Fits u
url_fits q u h e = if_some url u (subst (λ (x : Option (List ℕ)). (optional url).Fits x) e (urls_fit q h))

pub nothing_fits : text.Fits []
nothing_fits = text_fits [] (IsUtf8-from_ascii [] IsAscii-nil) (omega arith)

pub name_fits : (q : Request) → IsRequest q → text.Fits (name_in q)
name_fits (ask.Open asker u name noopener user) h =
    let same : h.0.0.1.1.0 ≡ name = cc in
    subst (λ (x : List ℕ). text.Fits x) same h.0.1.1.1.0
name_fits (ask.Link asker u name noopener user) h =
    let same : h.0.0.1.1.0 ≡ name = cc in
    subst (λ (x : List ℕ). text.Fits x) same h.0.1.1.1.0
name_fits (ask.Name asker doc name) h =
    let same : h.0.0.1.1 ≡ name = cc in
    subst (λ (x : List ℕ). text.Fits x) same h.0.1.1.1
name_fits _ h = nothing_fits

pub record IsFrameFit (name : List ℕ) (fl : ℕ) (u : Option (List ℕ)) : Type 0 where
  pub name_is : text.Fits name
  pub flags_are : flags.Fits fl
  pub url_is : (optional url).Fits u

pub frame_parts : (asker : ℕ) (name : List ℕ) (fl : ℕ) (u : Option (List ℕ)) → IsRequest (ask.Frame asker name fl u) → IsFrameFit name fl u
frame_parts asker name fl u h =
    let same_name : h.0.0.1.0 ≡ name = cc in
    let same_flags : h.0.0.1.1.0 ≡ fl = cc in
    let same_url : h.0.0.1.1.1 ≡ u = cc in
    record {
      name_is = subst (λ (x : List ℕ). text.Fits x) same_name h.0.1.1.0;
      flags_are = subst (λ (n : ℕ). flags.Fits n) same_flags h.0.1.1.1.0;
      url_is = subst (λ (x : Option (List ℕ)). (optional url).Fits x) same_url h.0.1.1.1.1;
    }

pub record IsPostFit (to : Target) (body : Data) : Type 0 where
  pub target_is : target.Fits to
  pub body_is : data_field.Fits body

pub post_parts : (asker doc : ℕ) (to : Target) (body : Data) → IsRequest (ask.Post asker doc to body) → IsPostFit to body
post_parts asker doc to body h =
    let same_target : h.0.0.1.1.0 ≡ to = cc in
    let same_body : h.0.0.1.1.1 ≡ body = cc in
    record {
      target_is = subst (λ (x : Target). target.Fits x) same_target h.0.1.1.1.0;
      body_is = subst (λ (x : Data). data_field.Fits x) same_body h.0.1.1.1.1;
    }
