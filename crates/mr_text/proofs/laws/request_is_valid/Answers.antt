use Rattle.std.proofs.Common.{All, sym, subst, rules}
use Rattle.mr_text.specs.Block.{IsBlock}
use Rattle.mr_text.specs.Key.{IsKey, HasKey, FitLine}
use Rattle.mr_text.specs.Valid.{IsValidRequest}
use Rattle.mr_text.proofs.laws.request_is_valid.Goals as goal

pub returns-in-Get : goal.returns-in-Get
returns-in-Get c =
    let keys = c.as_slice.ensures.keys in
    subst IsValidRequest (sym c.in-Get.is) (record {
      some = subst HasKey keys c.as_slice.ensures.has_key;
      fit = subst FitLine keys c.as_slice.ensures.fit_line;
      are_keys = subst (All IsKey) keys c.each_is_key.ensures;
    })

pub returns-in-Set : goal.returns-in-Set
returns-in-Set c = subst IsValidRequest (sym c.in-Set.is) (record {
  is_key = subst IsKey c.as_bytes.ensures.bytes c.as_bytes.ensures.key;
  flags_fit = c.are_flags.ensures;
  exptime_fits = let range = c.is_exptime.ensures in (search rules, search rules);
  is_block = subst IsBlock c.as_bytes-in-Set.ensures.bytes c.as_bytes-in-Set.ensures.block;
})
