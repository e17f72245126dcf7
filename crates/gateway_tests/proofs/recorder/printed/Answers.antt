use Rattle.std.proofs.Common.{string_bytes, rules}
use Rattle.std.proofs.Output.{contents_after_writes}
use Rattle.gateway_tests.proofs.recorder.printed.Goals as goal

pub returns : goal.returns
returns c =
    let h = c.write_report-text.ensures (search rules) in
    (h.0, h.1, rw c.new.ensures.bytes at (contents_after_writes _ string_bytes (λ w l v t. t) _ _ _ h.2))
