mod Cutting
mod Told
mod Known
mod Loans
mod Rests
mod Turns
