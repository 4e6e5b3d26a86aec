use Rattle.std.proofs.Common.{rules, ◌≡◌, ◌∷◌, [], ◌∙◌, codes, decimal, refl, subst}
use Rattle.std.specs.Fmt.{signed_decimal}
use Rattle.mr_text.specs.Canonical.{noreply_text}
use Rattle.mr_text.specs.Gathering.{Gathers}
use Rattle.mr_text.proofs.Gathered.{set_line_pieces}
use Rattle.mr_text.proofs.writing.put_set_line.Goals as goal

pub returns-clause-text : goal.returns-clause-text
returns-clause-text g c =
    let exptime : c.as_bytes-3.result.now ≡ signed_decimal c.args.exptime = search rules in
    subst (λ l. Gathers l c.args.buffer.now (g.W.Sink.told c.args.writer.now) c.put_line.result c.put_line.new.self (g.W.Sink.told c.put_line.new.writer))
    (set_line_pieces c.args.key.now (decimal c.args.flags) (signed_decimal c.args.exptime) (decimal c.args.block_length) (noreply_text c.args.noreply)
    (codes "set ") c.as_bytes.result.now (32 ∷ []) c.as_bytes-2.result.now (32 ∷ []) c.as_bytes-3.result.now (32 ∷ []) c.as_bytes-4.result.now c.noreply_word.result.now
    refl c.as_bytes.ensures.bytes refl (c.as_bytes-2.ensures.value ∙ c.format.ensures.text) refl
    exptime refl (c.as_bytes-4.ensures.value ∙ c.format-3.ensures.text) c.noreply_word.ensures)
    c.put_line.ensures.text
