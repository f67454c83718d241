-- Frames of requests.
use Rattle.std.proofs.Common.{◌≡◌, ℕ, ◌≤◌, true, List, [], ◌++◌, length, Result, Ok, Err, refl, sym, ap, subst, ◌∙◌, arith}
use Rattle.std.proofs.lemmas.List.{append-nil}
use Rattle.std.specs.Prelude.{IfOk}
use Rattle.link_fields.specs.Lawful.{IsBytes}
use Rattle.agent_terms.specs.declared.request.Request.{Request}
use Rattle.agent_terms.specs.declared.request.Request.TheVariants as requests
use Rattle.link_wire.specs.declared.bad.DecodeError.{DecodeError}
use Rattle.link_wire.specs.declared.frame.Side.TheVariants as sides
use Rattle.link_wire.specs.Bad.{Decoded, Decodes}
use Rattle.frame_grammar.specs.Cut.{most_body}
use Rattle.link_wire.specs.Frames.{is_kind, frame}
use Rattle.link_wire.specs.Requests.{kind_of, request_body, request_row, request_frame, IsRequest, request_read}
use Rattle.link_wire.proofs.RequestLaws.{request_row_law, request_key}
use Rattle.link_wire.proofs.FrameLaws.{frame_takes, frame_again, frame_whole}

body_is : (r : Request) → (request_row (kind_of r)).spell r ≡ request_body r
body_is requests.Next = refl
body_is (requests.Sync asker) = refl
body_is (requests.Frame asker name fl u) = refl
body_is (requests.Drop asker nav) = refl
body_is (requests.Open asker u t noopener user) = refl
body_is (requests.Link asker u t noopener user) = refl
body_is (requests.Go asker doc u user) = refl
body_is (requests.Name asker doc name) = refl
body_is (requests.Disown asker doc) = refl
body_is (requests.Close asker doc user) = refl
body_is (requests.Post asker doc t d) = refl
body_is (requests.Domain asker value) = refl
body_is requests.More = refl

is_known : (r : Request) → is_kind sides.Request (kind_of r) ≡ true
is_known requests.Next = refl
is_known (requests.Sync asker) = refl
is_known (requests.Frame asker name fl u) = refl
is_known (requests.Drop asker nav) = refl
is_known (requests.Open asker u t noopener user) = refl
is_known (requests.Link asker u t noopener user) = refl
is_known (requests.Go asker doc u user) = refl
is_known (requests.Name asker doc name) = refl
is_known (requests.Disown asker doc) = refl
is_known (requests.Close asker doc user) = refl
is_known (requests.Post asker doc t d) = refl
is_known (requests.Domain asker value) = refl
is_known requests.More = refl

pub request_found : (bytes : List ℕ) (r : Request) → IsBytes bytes → request_read bytes ≡ Ok r → IsRequest r × (bytes ≡ request_frame r)
request_found bytes r fits e =
    let t = frame_takes (is_kind sides.Request) most_body request_row request_row_law bytes r fits e in
    let k : t.0 ≡ kind_of r = sym (request_key t.0 r t.2) in
    let fits_there : (request_row (kind_of r)).Fits r = subst (λ (k : ℕ). (request_row k).Fits r) k t.2 in
    let spelled : (request_row t.0).spell r ≡ request_body r = ap (λ (k : ℕ). (request_row k).spell r) k ∙ body_is r in
    ((fits_there, subst (λ (b : List ℕ). length b ≤ most_body) spelled t.3), t.1 ∙ ap (frame t.0) spelled ∙ ap (λ k. frame k (request_body r)) k)

pub request_again : (r : Request) → IsRequest r → request_read (request_frame r) ≡ Ok r
request_again r h =
    let small : length ((request_row (kind_of r)).spell r) ≤ most_body = subst (λ (b : List ℕ). length b ≤ most_body) (sym (body_is r)) h.1 in
    ap (λ b. request_read (frame (kind_of r) b)) (sym (body_is r))
    ∙ frame_again (is_kind sides.Request) most_body request_row request_row_law (omega arith) (kind_of r) r (is_known r) h.0 small

abbrev made : Request → Decoded Request
made r = Ok r

same_result : (a b : Request) → made a ≡ made b → a ≡ b
same_result a b e = cc

pub one_spelling : (a b : Request) (x : List ℕ) → IsRequest a → IsRequest b → request_frame a ++ x ≡ request_frame b → (a ≡ b) × (x ≡ [])
one_spelling a b x ha hb e =
    let none : x ≡ [] = frame_whole (is_kind sides.Request) most_body (omega arith) (kind_of a) (kind_of b) (request_body a) (request_body b) x (is_known a) (is_known b) ha.1 hb.1 e in
    let same : request_frame a ≡ request_frame b = sym (append-nil (request_frame a)) ∙ ap (λ (t : List ℕ). request_frame a ++ t) (sym none) ∙ e in
    (same_result a b (sym (request_again a ha) ∙ ap request_read same ∙ request_again b hb), none)

pub found : (bytes : List ℕ) (result : Result Request DecodeError) → IsBytes bytes → Decodes result (request_read bytes) → IfOk result (λ r. IsRequest r × (bytes ≡ request_frame r))
found bytes (Ok r) fits h = request_found bytes r fits h
found bytes (Err e) fits h = tt
