mod Steps
mod Answered
