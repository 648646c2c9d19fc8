-- The part of the bytes that the text is copied to stands between the others.
use Rattle.std.proofs.Common.{arith}
use Rattle.text.proofs.Writing.{put_mid-sets}
use Rattle.text.proofs.lines.put_bytes.Goals as goal

pub returns-clause-out_after : goal.returns-clause-out_after
returns-clause-out_after c = put_mid-sets _ _ _ c.copy_from_slice.ensures.after (omega arith) c.requires
