-- Lemmas on the body of a response.
use Rattle.std.proofs.Common.{◌≡◌, ℕ, ◌-◌, ◌<◌, ◌≤◌, List, length, take, drop, map, All, sym, ap, ◌∙◌, subst, arith, length-drop, length-take, Ok}
use Rattle.std.proofs.lemmas.List.{length-map, get_or-map}
use Rattle.std.proofs.lemmas.List.Elements.{All-map}
use Rattle.std.specs.Prelude.{Result}
use Rattle.httparse.specs.Spans.{IsResponseAt, IsResponseOf, FindsResponse, header_bytes, name_and_value}
use Rattle.httparse.specs.Outcome.{IsCompleteAnd}
use Rattle.httparse.specs.declared.Error.{Error}
use Rattle.httparse.specs.declared.Status.{Status}
use Rattle.httparse.specs.declared.Status.TheVariants.{Complete}
use Rattle.httparse.specs.declared.spans.HeaderSpan.{HeaderSpan}
use Rattle.httparse.specs.declared.spans.ResponseSpans.{ResponseSpans}
use Rattle.httparse.proofs.GrammarLemmas.{response_unique}
use Rattle.mr_http.specs.Heard.{MAX_FIELDS}
use Rattle.mr_http.specs.Received.{Agrees, IsBody}

-- what holds of each that is made of an element holds of each element so
All-of-map : {X Y : Type 0} (P : Y → Type 0) (f : X → Y) (xs : List X) → All P (map f xs) → All (λ x. P (f x)) xs
All-of-map P f xs all = λ k d below.
    subst P (get_or-map f xs k d (f d) below) (all k (f d) (subst (λ n. k < n) (sym (length-map xs f)) below))

-- a head that was found has a body, where its fields agree with all that follows
pub body_of_head : (buf : List ℕ) (headers : List HeaderSpan) (spans : ResponseSpans) (bytes : ℕ)
    → IsResponseOf buf headers spans → length headers ≤ MAX_FIELDS → spans.code ≡ 200 → bytes ≡ length buf - spans.len
    → All (λ field. Agrees bytes (header_bytes buf field)) (take spans.headers headers)
    → IsBody buf (drop spans.len buf)
body_of_head buf headers spans bytes (head, at) few code sized agree =
    let found = take spans.headers headers in
    let as_many : length found ≡ length head.fields =
    sym (length-map found (header_bytes buf)) ∙ ap length at.fields ∙ length-map head.fields name_and_value in
    let cut = length-take spans.headers headers in
    let all : All (Agrees bytes) (map name_and_value head.fields) =
    subst (All (Agrees bytes)) at.fields (All-map (Agrees bytes) (header_bytes buf) found agree) in
    record {
      head = head;
      reads = at.reads;
      well = sym at.code ∙ code;
      few = omega (arith, as_many, cut, few);
      agree = subst (λ n. All (Agrees n) (map name_and_value head.fields)) (sized ∙ sym (length-drop spans.len buf)) all;
    }

-- a head that was found is the head of any body, with which its fields then agree
pub head_of_body : (buf : List ℕ) (headers : List HeaderSpan) (result : Result (Status ResponseSpans) Error) (spans : ResponseSpans) (bytes : ℕ) (body : List ℕ)
    → FindsResponse buf MAX_FIELDS headers result → result ≡ Ok (Complete spans) → bytes ≡ length buf - spans.len → IsBody buf body
    → All (λ field. Agrees bytes (header_bytes buf field)) (take spans.headers headers)
head_of_body buf headers result spans bytes body finds found sized is =
    let at : IsResponseAt buf headers spans is.head =
    subst (λ r. IsCompleteAnd r (λ each. IsResponseAt buf headers each is.head)) found (finds is.head body is.reads is.few) in
    let same = (response_unique buf is.head is.head body (drop spans.len buf) is.reads at.reads).1 in
    let sized_so : length body ≡ bytes = ap length same ∙ length-drop spans.len buf ∙ sym sized in
    let all : All (Agrees bytes) (map name_and_value is.head.fields) =
    subst (λ n. All (Agrees n) (map name_and_value is.head.fields)) sized_so is.agree in
    All-of-map (Agrees bytes) (header_bytes buf) (take spans.headers headers) (subst (All (Agrees bytes)) (sym at.fields) all)
