-- The rules by places (Places, NewPlaces), room and writing (Fits), the calls (Calls, NewCalls), the entries' ends (Ends) and numbers (Numbers). One span's id: the
-- full reader (Seeking), the halving and one stretch (Halving), their calls and answers (IdCalls). The old form from its ids (OldForm).
pub mod Places
pub mod NewPlaces
pub mod Fits
pub mod Calls
pub mod NewCalls
pub mod Ends
pub mod Numbers
pub mod Seeking
pub mod Halving
pub mod IdCalls
pub mod OldForm
