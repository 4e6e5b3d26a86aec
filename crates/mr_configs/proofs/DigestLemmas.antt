-- Lemmas on the digest of a configuration.
use Rattle.std.proofs.Common.{◌≡◌, ◌<◌, List, [], ◌∷◌, ℕ, true, false, length, arith, refl, sym, ap, subst, ◌∙◌}
use Rattle.std.specs.Prelude.{Option, Some, is_some, Result, Ok, Err, IsErrAnd, IfErr, unwrap_or}
use Rattle.json.specs.Json.{value}
use Rattle.json.specs.Lex.{lex, punctuate}
use Rattle.serde_json.specs.Data.{Data}
use Rattle.serde_json.specs.Read.{read}
use Rattle.serde_json.specs.Written.{has_float, compact_text}
use Rattle.mr_configs.specs.Config.{IsJson, IsNoJson}
use Rattle.mr_configs.specs.Digest.{IsDigest, digits_of_text}
use Rattle.mr_configs.specs.declared.error.PlanError.{PlanError}
use Rattle.mr_configs.specs.declared.error.PlanError.TheVariants.{OutOfMemory}

-- bytes have one value, whose compact text the digest is of
pub digest_of_value : (bytes digest : List ℕ) → IsDigest bytes digest
    → (said : Data) → IsJson bytes said → has_float said ≡ false → digest ≡ digits_of_text (compact_text said)
digest_of_value bytes digest is said json whole =
    let same : is.value ≡ said = ap (λ (o : Option Data). unwrap_or o said) (sym is.json.1 ∙ json.1) in
    is.digits ∙ ap digits_of_text (is.written.whole (ap has_float same ∙ whole) ∙ ap compact_text same)

-- a JSON text isn't empty
has_bytes : (bytes : List ℕ) (is : Data) → read bytes ≡ Some is → 0 < length bytes
unfolding lex punctuate value
has_bytes [] is e = let found : true ≡ false = ap is_some (sym e) in (cc)
has_bytes (byte ∷ bytes) is e = omega arith

-- of a JSON text too memory may be refused
pub lacks_memory : {T : Type 0} (bytes : List ℕ) (said : Data) (result : Result T PlanError) → IsJson bytes said
    → IsErrAnd result (λ e. e ≡ OutOfMemory) → IfErr result (λ e. IsNoJson bytes e)
lacks_memory bytes said (Ok made) json is = absurd is
lacks_memory bytes said (Err refusal) json is =
    subst (λ (e : PlanError). IsNoJson bytes e) (sym is) (refl, json.0, has_bytes bytes said json.1)
