use Rattle.std.proofs.Common.{◌≡◌, ◌∙◌, ℕ, List, Ok, Some, ap, sym, true, false, nat_eq}
use Rattle.std.specs.Cmp.Lexicographic.{pointwise}
use Rattle.std.specs.Int.{w64, to_be_bytes, from_be_bytes}
use Rattle.hex.specs.Hex.{decode_sized, encode_lower}
use Rattle.mr_probes.proofs.DigitsLemmas.{bytes_same, digits_of, number_of, number_read, on_ok, read_of, same_bytes, unread_of, bytes_of}
use Rattle.mr_probes.proofs.digits.read_number.Goals as goal

pub returns-then-is_err : goal.returns-then-is_err
returns-then-is_err c n fits = (
  λ none. absurd (cc),
  λ same. absurd (unread_of (decode_sized c.args.digits.now 8) c.decode_to_slice.new.out c.decode_to_slice.result c.decode_to_slice.ensures.value
      (sym c.is_err.ensures.value ∙ c.if-is_err.true) (to_be_bytes w64 n) (ap (λ (d : List ℕ). decode_sized d 8) same ∙ number_read n)),
)

pub returns-then-eq : goal.returns-then-eq
returns-then-eq c n fits =
    let digits = c.args.digits.now in
    let out = c.decode_to_slice.new.out in
    let read : decode_sized digits 8 ≡ Ok out = read_of (decode_sized digits 8) out c.decode_to_slice.result c.decode_to_slice.ensures.value (sym c.is_err.ensures.value ∙ c.if-is_err.false) in
    let again : c.encode_to_slice.new.output ≡ encode_lower out =
    on_ok c.encode_to_slice.result (c.encode_to_slice.new.output ≡ encode_lower c.as_slice.result.now) c.encode_to_slice.ensures.written (sym c.is_err-2.ensures.value ∙ c.if-is_err-2.false)
    ∙ ap encode_lower c.as_slice.ensures in
    let same : digits ≡ encode_lower out = same_bytes digits c.as_slice-2.result.now (sym c.eq.ensures ∙ c.if-eq.true) ∙ c.as_slice-2.ensures ∙ again in
    let of = bytes_of digits out read in
    let is : c.from_be_bytes.result ≡ from_be_bytes w64 out = c.from_be_bytes.ensures in (
      λ some. same ∙ number_of out of.0 of.1 n (let e : c.from_be_bytes.result ≡ n = cc in sym is ∙ e),
      λ told. ap (λ (m : ℕ). Some m) (is ∙ digits_of digits out read n fits told),
    )

pub returns-else-eq : goal.returns-else-eq
returns-else-eq c n fits =
    let digits = c.args.digits.now in
    let out = c.decode_to_slice.new.out in
    let read : decode_sized digits 8 ≡ Ok out = read_of (decode_sized digits 8) out c.decode_to_slice.result c.decode_to_slice.ensures.value (sym c.is_err.ensures.value ∙ c.if-is_err.false) in
    let again : c.encode_to_slice.new.output ≡ encode_lower out =
    on_ok c.encode_to_slice.result (c.encode_to_slice.new.output ≡ encode_lower c.as_slice.result.now) c.encode_to_slice.ensures.written (sym c.is_err-2.ensures.value ∙ c.if-is_err-2.false)
    ∙ ap encode_lower c.as_slice.ensures in
    let of = bytes_of digits out read in (
      λ none. absurd (cc),
      λ told.
          let equal : c.as_slice-2.result.now ≡ digits = c.as_slice-2.ensures ∙ again ∙ number_of out of.0 of.1 n (digits_of digits out read n fits told) ∙ sym told in
          let yes : pointwise nat_eq digits c.as_slice-2.result.now ≡ true = ap (λ (d : List ℕ). pointwise nat_eq digits d) equal ∙ bytes_same digits in
          let no : pointwise nat_eq digits c.as_slice-2.result.now ≡ false = sym c.eq.ensures ∙ c.if-eq.false in
          absurd (cc),
    )
