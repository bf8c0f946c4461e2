use Rattle.bw_http.proofs.replies.write_failed.Goals as goal

pub returns-in-Spent : goal.returns-in-Spent
returns-in-Spent g c = rw c.in-Spent.is c.write_words.ensures

pub returns-in-DivideByZero : goal.returns-in-DivideByZero
returns-in-DivideByZero g c = rw c.in-DivideByZero.is c.write_words-in-DivideByZero.ensures

pub returns-in-Overflow : goal.returns-in-Overflow
returns-in-Overflow g c = rw c.in-Overflow.is c.write_words-in-Overflow.ensures

pub returns-in-StringTooLong : goal.returns-in-StringTooLong
returns-in-StringTooLong g c = rw c.in-StringTooLong.is c.write_number.ensures

pub returns-in-Heavy : goal.returns-in-Heavy
returns-in-Heavy g c = rw c.in-Heavy.is c.write_number-in-Heavy.ensures

pub returns-in-Deep : goal.returns-in-Deep
returns-in-Deep g c = rw c.in-Deep.is c.write_number-in-Deep.ensures

pub returns-in-Nested : goal.returns-in-Nested
returns-in-Nested g c = rw c.in-Nested.is c.write_number-in-Nested.ensures

pub returns-in-PageTooLong : goal.returns-in-PageTooLong
returns-in-PageTooLong g c = rw c.in-PageTooLong.is c.write_number-in-PageTooLong.ensures

pub returns-in-SessionHeavy : goal.returns-in-SessionHeavy
returns-in-SessionHeavy g c = rw c.in-SessionHeavy.is c.write_number-in-SessionHeavy.ensures

pub returns-in-SharedHeavy : goal.returns-in-SharedHeavy
returns-in-SharedHeavy g c = rw c.in-SharedHeavy.is c.write_number-in-SharedHeavy.ensures

pub returns-in-Memory : goal.returns-in-Memory
returns-in-Memory g c = rw c.in-Memory.is c.write_words-in-Memory.ensures
