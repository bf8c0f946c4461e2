-- Statements that end in `exit`.
use Rattle.std.proofs.Common.{◌≡◌, false, refl}
use Rattle.bw_lang.specs.Service.Code.{Code, done, declare, assign, if_then, if_else, while_loop, block, for_each, show, exit}
use Rattle.bw_types.specs.Faults.{ends_in_exit}
use Rattle.bw_flow.proofs.Shut.{closes}

pub closes_is : (c : Code) → closes false c ≡ ends_in_exit c
closes_is done = refl
closes_is (declare k w e rest) = closes_is rest
closes_is (assign w e rest) = closes_is rest
closes_is (if_then t y rest) = closes_is rest
closes_is (if_else t y z rest) = closes_is rest
closes_is (while_loop t y rest) = closes_is rest
closes_is (block y rest) = closes_is rest
closes_is (for_each w e y rest) = closes_is rest
closes_is (show e rs rest) = closes_is rest
closes_is (exit e done) = refl
closes_is (exit e rest) = closes_is rest
