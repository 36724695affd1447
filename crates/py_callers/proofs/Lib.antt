mod LineRun
mod OneByte
mod Replacing
mod ThreeCalls
