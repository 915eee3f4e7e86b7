use Rattle.std.proofs.Common.{rules}
use Rattle.exec_value.proofs.name.is_error_name.Goals as goal

pub returns-then-bytes-le-ERROR_NAME_BYTES : goal.returns-then-bytes-le-ERROR_NAME_BYTES
returns-then-bytes-le-ERROR_NAME_BYTES c = search rules
